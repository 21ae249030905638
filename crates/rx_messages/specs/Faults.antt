-- What a report says of the text of the functions, or of the precondition: at which place, and what
-- is wrong there.
use Rattle.std.specs.Prelude.{ℕ, Bool, true, false, List, [], Option, Some, None, codes, length, nat_lt, if◌then◌else◌}
use Rattle.c_lex.specs.declared.error.LexEnd.{LexEnd}
use Rattle.c_lex.specs.declared.error.LexEnd.TheVariants as Fault
use Rattle.c_parse.specs.declared.error.ParseEnd.{ParseEnd}
use Rattle.c_parse.specs.declared.error.ParseEnd.TheVariants as Flaw
use Rattle.c_names.specs.declared.error.ScopeEnd.{ScopeEnd}
use Rattle.c_names.specs.declared.error.ScopeEnd.TheVariants as Wrong
use Rattle.rx_report.specs.declared.verdicts.Verdict.{Verdict}
use Rattle.rx_report.specs.declared.verdicts.Verdict.TheVariants as Said
use Rattle.rx_places.specs.Spots.{spot_of_fault, spot_of_token}
use Rattle.rx_places.specs.declared.spots.Spot.{Spot}
use Rattle.rx_messages.specs.declared.faults.Place.{Place}
use Rattle.rx_messages.specs.declared.faults.Place.TheVariants.{OfFault, OfToken}

-- ---- places

-- the token that a refusal of the grammar names
abbrev pub token_of_parse : ParseEnd → Option Place
token_of_parse (Flaw.Syntax token) = Some (OfToken token)
token_of_parse (Flaw.TooDeep token) = Some (OfToken token)
token_of_parse (Flaw.TooManyParams token) = Some (OfToken token)
token_of_parse Flaw.NoMemory = None
token_of_parse Flaw.NotARowForm = None

-- the token that a refusal of a program names
abbrev pub token_of_scope : ScopeEnd → Option Place
token_of_scope (Wrong.UnknownName token) = Some (OfToken token)
token_of_scope (Wrong.TwiceDeclared token) = Some (OfToken token)
token_of_scope (Wrong.WrongCount token) = Some (OfToken token)
token_of_scope (Wrong.MayBeUnset token) = Some (OfToken token)
token_of_scope (Wrong.MayNotReturn token) = Some (OfToken token)
token_of_scope (Wrong.StrayBreak token) = Some (OfToken token)
token_of_scope (Wrong.TooManySlots token) = Some (OfToken token)
token_of_scope Wrong.NoMemory = None

-- the place that a report names in a text
abbrev pub place_of : Verdict → Option Place
place_of (Said.Lex fault) = Some (OfFault fault)
place_of (Said.Parse end) = token_of_parse end
place_of (Said.Scope end) = token_of_scope end
place_of (Said.WideLiteral token) = Some (OfToken token)
place_of (Said.PreLex fault) = Some (OfFault fault)
place_of (Said.PreParse end) = token_of_parse end
place_of (Said.PreName token) = Some (OfToken token)
place_of verdict = None

-- the text is the precondition
abbrev pub is_about_pre : Verdict → Bool
is_about_pre (Said.PreLex fault) = true
is_about_pre (Said.PreParse end) = true
is_about_pre (Said.PreName token) = true
is_about_pre verdict = false

-- the part of the text at that place
abbrev pub spot_of_place : List ℕ → Place → Option Spot
spot_of_place text (OfFault fault) = spot_of_fault text fault
spot_of_place text (OfToken token) = spot_of_token text token

-- the same of a text that isn't longer than a source may be
abbrev pub spot_at : List ℕ → Place → Option Spot
spot_at text place = if nat_lt 1048576 (length text) then None else spot_of_place text place

-- ---- what is wrong there

abbrev pub words_of_fault : LexEnd → List ℕ
words_of_fault (Fault.BadByte at) = codes " can't stand here"
words_of_fault (Fault.OpenComment at) = codes " begins a comment that isn't closed"
words_of_fault (Fault.LiteralTooLarge at) = codes " is above 9223372036854775807"
words_of_fault (Fault.LeadingZero at) = codes " has a 0 in front of other digits"
words_of_fault (Fault.Directive at) = codes " begins a directive that isn't an include line"
words_of_fault Fault.NoMemory = []

abbrev pub words_of_parse : ParseEnd → List ℕ
words_of_parse (Flaw.Syntax token) = codes " isn't expected here"
words_of_parse (Flaw.TooDeep token) = codes " opens one more bracket where 200 are open"
words_of_parse (Flaw.TooManyParams token) = codes " has more than 16 parameters"
words_of_parse Flaw.NoMemory = []
words_of_parse Flaw.NotARowForm = codes "the precondition is no conjunction of comparisons"

abbrev pub words_of_scope : ScopeEnd → List ℕ
words_of_scope (Wrong.UnknownName token) = codes " isn't known here"
words_of_scope (Wrong.TwiceDeclared token) = codes " is declared twice"
words_of_scope (Wrong.WrongCount token) = codes " is defined with another number of parameters"
words_of_scope (Wrong.MayBeUnset token) = codes " may be read before it is set"
words_of_scope (Wrong.MayNotReturn token) = codes " may end without a return"
words_of_scope (Wrong.StrayBreak token) = codes " stands outside loops"
words_of_scope (Wrong.TooManySlots token) = codes " is the 65th variable in scope"
words_of_scope Wrong.NoMemory = []
