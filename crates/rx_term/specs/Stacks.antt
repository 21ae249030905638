-- Terms as stacks: their frames, the part under some of them, and what is in place of that part.
use Rattle.std.specs.Prelude.{ℕ, zero, suc, ◌+◌, Bool, true, false, Option, Some, None}
use Rattle.std.specs.Option.{option_map_or}
use Rattle.rx_term.specs.declared.term.Sym.{Sym}
use Rattle.rx_term.specs.declared.term.Term.{Term, Term-F, fold-Term, out-Term}
use Rattle.rx_term.specs.declared.term.Term.TheVariants.{Frame}

-- how many frames there are
abbrev pub depth_level : Term-F ℕ → ℕ
depth_level (Term-F.Return p) = 0
depth_level (Term-F.Fail c) = 0
depth_level (Term-F.Call f ps) = 0
depth_level (Term-F.Frame f ps inner) = 1 + inner

abbrev pub depth_of : Term → ℕ
depth_of = fold-Term ℕ depth_level

-- how many frames are over the redex: none over a call, all but the innermost over a result; a
-- result has none
abbrev pub redex_place_level : Term-F (Option ℕ) → Option ℕ
redex_place_level (Term-F.Return p) = None
redex_place_level (Term-F.Fail c) = None
redex_place_level (Term-F.Call f ps) = Some 0
redex_place_level (Term-F.Frame f ps inner) = Some (option_map_or (λ n. 1 + n) inner 0)

abbrev pub redex_place : Term → Option ℕ
redex_place = fold-Term (Option ℕ) redex_place_level

-- whether the term is a result: a returned value or a failure
abbrev pub is_result_level : Term-F Term → Bool
is_result_level (Term-F.Return p) = true
is_result_level (Term-F.Fail c) = true
is_result_level (Term-F.Call f ps) = false
is_result_level (Term-F.Frame f ps inner) = false

abbrev pub is_result : Term → Bool
is_result t = is_result_level (out-Term t)

-- whether it is a redex: a call, or a frame over a result
abbrev pub is_redex_level : Term-F Term → Bool
is_redex_level (Term-F.Return p) = false
is_redex_level (Term-F.Fail c) = false
is_redex_level (Term-F.Call f ps) = true
is_redex_level (Term-F.Frame f ps inner) = is_result inner

abbrev pub is_redex : Term → Bool
is_redex t = is_redex_level (out-Term t)

-- the outermost symbol; a result has none
abbrev pub root_level : Term-F Term → Option Sym
root_level (Term-F.Return p) = None
root_level (Term-F.Fail c) = None
root_level (Term-F.Call f ps) = Some f
root_level (Term-F.Frame f ps inner) = Some f

abbrev pub root_of : Term → Option Sym
root_of t = root_level (out-Term t)

-- whether the frames are over a call, and not over a result
abbrev pub ends_in_call_level : Term-F Bool → Bool
ends_in_call_level (Term-F.Return p) = false
ends_in_call_level (Term-F.Fail c) = false
ends_in_call_level (Term-F.Call f ps) = true
ends_in_call_level (Term-F.Frame f ps inner) = inner

abbrev pub ends_in_call : Term → Bool
ends_in_call = fold-Term Bool ends_in_call_level

-- what is found under the outermost frame, if there is one
abbrev pub under_frame : Term-F Term → (Term → Option Term) → Option Term
under_frame (Term-F.Return p) find = None
under_frame (Term-F.Fail c) find = None
under_frame (Term-F.Call f ps) find = None
under_frame (Term-F.Frame f ps inner) find = find inner

-- the part under n frames, if there are n
abbrev pub suffix_at : ℕ → Term → Option Term
suffix_at zero t = Some t
suffix_at (suc n) t = under_frame (out-Term t) (suffix_at n)

-- the frames of the first, its innermost outside, over the second
abbrev pub plug_reversed_level : Term-F (Term → Term) → Term → Term
plug_reversed_level (Term-F.Return p) = λ inner. inner
plug_reversed_level (Term-F.Fail c) = λ inner. inner
plug_reversed_level (Term-F.Call f ps) = λ inner. inner
plug_reversed_level (Term-F.Frame f ps upper) = λ inner. upper (Frame f ps inner)

abbrev pub plug_reversed : Term → Term → Term
plug_reversed = fold-Term (Term → Term) plug_reversed_level

-- the outermost frame kept over what `change` makes of the part under it; without a frame, `end`
abbrev pub over_frame : Term-F Term → Term → (Term → Term) → Term
over_frame (Term-F.Return p) end change = end
over_frame (Term-F.Fail c) end change = end
over_frame (Term-F.Call f ps) end change = end
over_frame (Term-F.Frame f ps inner) end change = Frame f ps (change inner)

-- n outer frames, or all where there are fewer, over the other term
abbrev pub replace_at : ℕ → Term → Term → Term
replace_at zero t inner = inner
replace_at (suc n) t inner = over_frame (out-Term t) inner (λ rest. replace_at n rest inner)

-- the other term in place of the redex; a result stays as it is
abbrev pub replace_redex : Term → Term → Term
replace_redex t inner = option_map_or (λ n. replace_at n t inner) (redex_place t) t

-- the outermost frame over the other term, and what that frame was over; without a frame, the other
-- term
abbrev pub unwind_level : Term-F Term → Term → Term × Option Term
unwind_level (Term-F.Return p) upper = (upper, None)
unwind_level (Term-F.Fail c) upper = (upper, None)
unwind_level (Term-F.Call f ps) upper = (upper, None)
unwind_level (Term-F.Frame f ps inner) upper = (Frame f ps upper, Some inner)

abbrev pub unwind : Term → Term → Term × Option Term
unwind t upper = unwind_level (out-Term t) upper
