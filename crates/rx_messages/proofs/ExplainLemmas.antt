-- Nothing is written where the log or the rule text can't be read, or is another.
use Rattle.std.specs.Prelude.{◌≡◌, ◌≤◌, ℕ, List, Option, Some, None, Err, Vec}
use Rattle.std.specs.declared.alloc.Global.{Global}
use Rattle.std.proofs.Common.{inl, inr, refl, subst}
use Rattle.std.specs.Io.KnownBytes.{Keeps}
use Rattle.rx_io.specs.Outside.{Names, Rose}
use Rattle.rx_report.specs.declared.ends.Status.{Status}
use Rattle.rx_report.specs.declared.verdicts.Verdict.{Verdict}
use Rattle.rx_messages.specs.Asked.{Asked}
use Rattle.rx_messages.specs.Explaining.{Explains, HasChanged, HasChangedFile, IsRead, IsUnread, name_read}
use Rattle.rx_messages.specs.Logs.{AreFacts, Facts, longest_log}
use Rattle.rx_messages.specs.Messages.{message}
use Rattle.rx_messages.specs.RuleTexts.{lines_name}
use Rattle.rx_messages.specs.Steps.{FindsFacts, MakesSome}
use Rattle.rx_messages.specs.declared.logs.Posed.{Posed}
use Rattle.rx_messages.specs.declared.silences.Silence.{Silence}
use Rattle.rx_messages.specs.declared.silences.Silence.TheVariants as silence

-- the name is that of what was asked
named : (name : Option (List ℕ)) (other asked : Asked) (verdict : Option Verdict) →
    name ≡ lines_name other verdict → other ≡ asked → name ≡ lines_name asked verdict
named name other asked verdict name_is is =
    subst (λ (a : Asked). name ≡ lines_name a verdict) is name_is

pub kept : (bytes : Option (List ℕ)) → Keeps bytes bytes
kept None = tt
kept (Some bytes) = refl

-- what calls on the file of which a line is shown say, after calls on the text
pub no_facts : (held mid : Option Names) (start before now : ℕ) (write_fault : Type 0)
    (asked other : Asked) (posed : Option Posed) (status : Status) (verdict : Option Verdict)
    (put name : Option (List ℕ)) (end : Silence) → mid ≡ held → start ≤ before → other ≡ asked →
    name ≡ lines_name other verdict → FindsFacts mid before now name posed verdict (Err end) →
    Explains held (Rose start now) write_fault asked posed status verdict put put (Err end)
no_facts held mid start before now write_fault asked other posed status verdict put name
    silence.NoMemory same later is name_is finds = kept put
no_facts held mid start before now write_fault asked other posed status verdict put name
    silence.Unread same later is name_is finds = (
      kept put,
      inr (subst (λ (n : Option (List ℕ)). IsUnread held (Rose start now) longest_log n)
          (named name other asked verdict name_is is)
          (subst (λ (h : Option Names). IsUnread h (Rose start now) longest_log name) same
          (finds start later))),
    )
no_facts held mid start before now write_fault asked other posed status verdict put name
    silence.Changed same later is name_is finds = (
      kept put,
      inr (subst (λ (n : Option (List ℕ)). HasChangedFile held n posed verdict)
          (named name other asked verdict name_is is)
          (subst (λ (h : Option Names). HasChangedFile h name posed verdict) same finds)),
    )
no_facts held mid start before now write_fault asked other posed status verdict put name silence.Cut
    same later is name_is finds = absurd finds

-- what is read has no such place as the report names
pub other_text : (held mid : Option Names) (asked other : Asked) (posed : Option Posed)
    (status : Status) (verdict : Option Verdict) (put name lines : Option (List ℕ))
    (given bytes : List ℕ) (facts : Facts) (made : Option (Vec ℕ Global)) → mid ≡ held →
    other ≡ asked → name ≡ name_read other verdict → lines ≡ lines_name other verdict →
    IsRead held name given → bytes ≡ given → AreFacts mid lines posed verdict facts →
    MakesSome (message other status verdict bytes facts) made → made ≡ None →
    Keeps put put × HasChanged held asked posed status verdict
other_text held mid asked other posed status verdict put name lines given bytes facts made same is
    name_is lines_is read bytes_is file makes made_is = (
      kept put,
      inl (record {
        given = given;
        facts = facts;
        read =
            subst (λ (a : Asked). IsRead held (name_read a verdict) given) is
            (subst (λ (n : Option (List ℕ)). IsRead held n given) name_is read);
        of_file =
            subst (λ (n : Option (List ℕ)). AreFacts held n posed verdict facts)
            (named lines other asked verdict lines_is is)
            (subst (λ (h : Option Names). AreFacts h lines posed verdict facts) same file);
        none =
            subst (λ (a : Asked). message a status verdict given facts ≡ None) is
            (subst (λ (b : List ℕ). message other status verdict b facts ≡ None) bytes_is
            (subst (MakesSome (message other status verdict bytes facts)) made_is makes));
      }),
    )
