-- The sentences that are said of a story.
use Rattle.std.specs.Prelude.{ℕ, zero, suc, Bool, true, false, not, ◌&&◌, if◌then◌else◌, List, [], ◌∷◌, ◌++◌, length, nat_lt, codes, slice_get, option_map, unwrap_or}
use Rattle.std.specs.Borrow.{Bor}
use Rattle.std.specs.List.{flat_map}
use Rattle.model.specs.declared.fact.Fact.{Fact}
use Rattle.model.specs.Boxes.{Box}
use Rattle.model.specs.Domains.{has}
use Rattle.clauses.specs.declared.literal.Literal.{Literal}
use Rattle.narrowing.specs.declared.Verdict.{Verdict}
use Rattle.narrowing.specs.declared.Verdict.TheVariants.{Alive, Dead}
use Rattle.table.specs.declared.relation.Relation.{Relation}
use Rattle.table.specs.declared.relation.Relation.TheVariants.{Equal, Not, And, Or}
use Rattle.stories.specs.declared.story.Story.{Story}

-- the text at a flag's place in the list of names
abbrev pub name_of : List (Bor (List ℕ)) → ℕ → List ℕ
name_of names flag = unwrap_or (option_map (λ name. name.now) (slice_get names flag)) (codes "a flag without a name")

abbrev pub yes_or_no : Bool → List ℕ
yes_or_no value = if value then codes "yes" else codes "no"

abbrev pub rule_text : List (Bor (List ℕ)) → Relation ℕ → List ℕ
rule_text names (Equal x y) = codes "  Rule: " ++ name_of names x ++ codes " = " ++ name_of names y ++ codes "."
rule_text names (Not x y) = codes "  Rule: not " ++ name_of names x ++ codes " = " ++ name_of names y ++ codes "."
rule_text names (And x y z) = codes "  Rule: " ++ name_of names x ++ codes " and " ++ name_of names y ++ codes " = " ++ name_of names z ++ codes "."
rule_text names (Or x y z) = codes "  Rule: " ++ name_of names x ++ codes " or " ++ name_of names y ++ codes " = " ++ name_of names z ++ codes "."

abbrev pub told_text : List (Bor (List ℕ)) → Fact → List ℕ
told_text names fact = codes "Told: " ++ name_of names fact.flag ++ codes " is " ++ yes_or_no fact.value ++ codes "."

-- literals one after another, the first after one separator and each other after another
abbrev pub literals_text : List (Bor (List ℕ)) → List ℕ → List ℕ → List (Literal ℕ) → List ℕ
literals_text names first next [] = []
literals_text names first next (l ∷ ls) = first ++ name_of names l.flag ++ codes " is " ++ yes_or_no l.positive ++ literals_text names next next ls

abbrev pub clause_text : List (Bor (List ℕ)) → List (Literal ℕ) → List ℕ
clause_text names ls = codes "  Rule:" ++ literals_text names (codes " ") (codes ", or ") ls ++ codes "."

-- the title, the clauses and the rules, each on a line of its own
abbrev pub story_text : Story → List ℕ
story_text story =
    let names = story.flags.names.now in
    (story.title.now ++ 10 ∷ [])
    ++ (flat_map (λ clause. clause_text names clause.now ++ 10 ∷ []) story.clauses.now
    ++ flat_map (λ rule. rule_text names rule ++ 10 ∷ []) story.rules.now)

-- whether a flag had a value and has it no more
abbrev pub is_struck : Box → Box → ℕ → Bool → Bool
is_struck before after flag value = has (before flag) value && not (has (after flag) value)

abbrev pub struck_line : List (Bor (List ℕ)) → ℕ → Bool → List ℕ
struck_line names flag value =
    codes "  Struck out: " ++ name_of names flag ++ codes " cannot be " ++ yes_or_no value ++ codes ", so it is " ++ yes_or_no (not value) ++ codes "."

-- then that is said on a line of its own
abbrev pub struck_text : List (Bor (List ℕ)) → Box → Box → ℕ → Bool → List ℕ
struck_text names before after flag value = if is_struck before after flag value then struck_line names flag value ++ 10 ∷ [] else []

-- both values of a flag, and of the flags below a number
abbrev pub struck_at : List (Bor (List ℕ)) → Box → Box → ℕ → List ℕ
struck_at names before after flag = struck_text names before after flag false ++ struck_text names before after flag true

unfoldable pub struck_below : List (Bor (List ℕ)) → Box → Box → ℕ → List ℕ
struck_below names before after zero = []
struck_below names before after (suc flag) = struck_below names before after flag ++ struck_at names before after flag

-- whether a flag has a name and may still be either
abbrev pub is_open : List (Bor (List ℕ)) → Box → ℕ → Bool
is_open names b flag = nat_lt flag (length names) && (has (b flag) false && has (b flag) true)

-- whether none of the flags below a number is open
unfoldable pub none_open : List (Bor (List ℕ)) → Box → ℕ → Bool
none_open names b zero = true
none_open names b (suc flag) = none_open names b flag && not (is_open names b flag)

-- the name of an open flag, after the others
abbrev pub open_text : List (Bor (List ℕ)) → Box → Bool → ℕ → List ℕ
open_text names b none flag = if is_open names b flag then (if none then codes " " else codes ", ") ++ name_of names flag else []

-- those of the flags below a number
unfoldable pub open_below : List (Bor (List ℕ)) → Box → ℕ → List ℕ
open_below names b zero = []
open_below names b (suc flag) = open_below names b flag ++ open_text names b (none_open names b flag) flag

abbrev pub still_open_text : List (Bor (List ℕ)) → Box → List ℕ
still_open_text names b = codes "  Still open:" ++ (open_below names b 256 ++ (if none_open names b 256 then codes " nothing." else codes "."))

-- what was struck out, or that there is a contradiction
abbrev pub outcome_text : Verdict → List ℕ → List ℕ
outcome_text Alive struck = struck
outcome_text Dead struck = codes "  That cannot be: no set of flags fits it together with what was told before, so it is not kept." ++ 10 ∷ []
