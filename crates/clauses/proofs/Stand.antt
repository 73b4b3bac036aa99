-- The rule of a clause stands.
use Rattle.std.proofs.Common.{◌≡◌, ℕ, Bool, true, false, List, ◌≢◌, sym, ap, ◌∙◌, subst, ⊎_elim}
use Rattle.model.specs.Boxes.{Box}
use Rattle.model.specs.Domains.{Has, only, cut_set}
use Rattle.model.specs.Facts.{cut}
use Rattle.model.specs.Strikes.{Strikes}
use Rattle.model.specs.declared.domain.Domain.{Domain}
use Rattle.model.specs.declared.domain.Domain.TheVariants.{Empty}
use Rattle.model.specs.declared.strike.Strike.{Strike}
use Rattle.model.specs.declared.strike.Strike.TheVariants.{Unchanged, Changed}
use Rattle.model.proofs.Sets.{same_sets, set_decides, has-only, only_has, has-cut, cut_has}
use Rattle.model.proofs.Stand.{box_laws}
use Rattle.clauses.specs.Literals.{row_of}
use Rattle.clauses.specs.UnitRule.{ClauseDies, ClauseForces, ClauseRests, ClauseMet, ClauseRule}
use Rattle.clauses.specs.declared.literal.Literal.{Literal}
use Rattle.clauses.proofs.Struck.{met, meets, none_empty, none_true, gone, struck_dead, struck_free, struck_forced}

-- a strike leaves and answers what any strike of the same box does
fixed : (ls : List (Literal ℕ)) (before a b : Box) (x y : Strike) → Strikes (row_of ls) before a x → Strikes (row_of ls) before b y → (a ≡ b) × (x ≡ y)
fixed ls before = (box_laws.strikes (row_of ls) before).0

-- a set cut down to a value that it has
cut_only : (d : Domain) (v : Bool) → Has d v → cut_set d v ≡ only v
cut_only d v h =
    same_sets (cut_set d v) (only v)
    (λ w x. subst (Has (only v)) (sym (has-cut d v w x).0) (only_has v))
    (λ w x. let e = has-only v w x in cut_has d v w e (subst (Has d) (sym e) h))

dies : ClauseDies
dies ls before after answer some s none =
    let q = fixed ls before after _ answer _ s (struck_dead ls before some (⊎_elim (none_empty ls before) (none_true ls before) none)) in
    (q.1, λ f o. ap (λ b. b f) q.0 ∙ gone ls before f o)

-- a set of one value is not empty
only_some : (v : Bool) → only v ≢ Empty
only_some false q = cc
only_some true q = cc

forces : ClauseForces
forces ls before after answer s full l there alone =
    let left = cut before l.flag l.positive in
    let here = cut_only (before l.flag) l.positive there.1 in
    let some : cut_set (before l.flag) l.positive ≢ Empty = λ q. only_some l.positive (sym here ∙ q) in
    let struck = struck_forced ls before full l there alone in
    ⊎_elim
    (λ e. let q = fixed ls before after left answer Unchanged s (struck Unchanged (some, here ∙ sym e)) in (q.0, (λ _. q.1), λ n. absurd (n e)))
    (λ n. let q = fixed ls before after left answer Changed s (struck Changed (some, λ x. n (sym x ∙ here))) in (q.0, (λ e. absurd (n e)), λ _. q.1))
    (set_decides (before l.flag) (only l.positive))

rests : ClauseRests
rests ls before after answer s full l m cl cm n =
    fixed ls before after before answer Unchanged s (struck_free ls before full l m cl cm n)

means : ClauseMet
means ls s = (met s ls, λ (l, i, e). meets s ls l i e)

pub clause_rule : ClauseRule
clause_rule = record { dies = dies; forces = forces; rests = rests; met = means }
