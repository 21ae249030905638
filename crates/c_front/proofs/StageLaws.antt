-- A composition of stages that have one answer each has one answer.
use Rattle.std.proofs.Common.{◌≡◌, Result, inl, inr, sym, ap, subst, ◌∙◌}
use Rattle.c_front.specs.declared.stages.Next.{Next}
use Rattle.c_front.specs.declared.stages.Next.TheVariants.{Ends, Goes}
use Rattle.c_front.specs.Stages.{Stage, before, by}
use Rattle.c_front.proofs.Options.{clash, same_err, same_ok}

-- two answers of a stage are one
module _ {E B : Type 0} where
  abbrev pub AreSame : Next E B → Next E B → Type 0
  AreSame (Ends d) (Ends e) = d ≡ e
  AreSame (Goes b) (Goes c) = b ≡ c
  AreSame x y = ⊥

  pub same_next : (x y : Next E B) → AreSame x y → x ≡ y
  same_next (Ends d) (Ends e) same = ap (λ (end : E). Ends end) same
  same_next (Ends d) (Goes c) same = absurd same
  same_next (Goes b) (Ends e) same = absurd same
  same_next (Goes b) (Goes c) same = ap (λ (goes : B). Goes goes) same

-- a stage has at most one answer
module _ {E A B : Type 0} where
  abbrev pub IsOne : Stage E A B → Type 0
  IsOne stage = (a : A) (x y : Next E B) → stage a x → stage a y → AreSame x y

module _ {D E A B : Type 0} where
  -- a function has one answer
  pub one_by : (end_of : D → E) (f : A → Result B D) → IsOne (by end_of f)
  one_by end_of f a (Ends d) (Ends e) (c, p, c_is) (b, q, b_is) =
      c_is ∙ (ap end_of (same_err p q) ∙ sym b_is)
  one_by end_of f a (Ends d) (Goes y) (c, p, c_is) q = clash q p
  one_by end_of f a (Goes x) (Ends e) p (c, q, c_is) = clash p q
  one_by end_of f a (Goes x) (Goes y) p q = same_ok p q

module _ {E A B C : Type 0} (S : Stage E A B) (T : Stage E B C) (one_s : IsOne S) (one_t : IsOne T)
  where
    -- the second stage has one answer to what the first says
    carried : (a : A) (b c : B) (x y : Next E C) → S a (Goes b) → S a (Goes c) → T b x → T c y →
        AreSame x y
    carried a b c x y p q t u = one_t c x y (subst (λ z. T z x) (one_s a (Goes b) (Goes c) p q) t) u

    -- two stages, one after the other, have one answer
    pub one_before : IsOne (before S T)
    one_before a (Ends d) (Ends e) (inl p) (inl q) = one_s a (Ends d) (Ends e) p q
    one_before a (Ends d) (Ends e) (inl p) (inr (c, q, u)) = absurd (one_s a (Ends d) (Goes c) p q)
    one_before a (Ends d) (Ends e) (inr (b, p, t)) (inl q) = absurd (one_s a (Goes b) (Ends e) p q)
    one_before a (Ends d) (Ends e) (inr (b, p, t)) (inr (c, q, u)) =
        carried a b c (Ends d) (Ends e) p q t u
    one_before a (Ends d) (Goes y) (inl p) (c, q, u) = absurd (one_s a (Ends d) (Goes c) p q)
    one_before a (Ends d) (Goes y) (inr (b, p, t)) (c, q, u) =
        carried a b c (Ends d) (Goes y) p q t u
    one_before a (Goes x) (Ends e) (b, p, t) (inl q) = absurd (one_s a (Goes b) (Ends e) p q)
    one_before a (Goes x) (Ends e) (b, p, t) (inr (c, q, u)) =
        carried a b c (Goes x) (Ends e) p q t u
    one_before a (Goes x) (Goes y) (b, p, t) (c, q, u) = carried a b c (Goes x) (Goes y) p q t u
