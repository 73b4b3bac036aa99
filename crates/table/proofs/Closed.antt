-- A strike leaves what the rules lead to.
use Rattle.std.proofs.Common.{◌≡◌, ℕ, Bool, true, false, cond, List, [], ◌∷◌, map, length, set, sym, refl, ap, ◌∙◌, subst, ⊎_elim, length-set, arith}
use lib.ListN.{length-map}
use Rattle.std.proofs.lemmas.Bool.{cases_Bool, and_parts, false≢true}
use Rattle.model.specs.Domains.{is_empty, cut_set}
use Rattle.model.specs.Rows.{elem, Distinct}
use Rattle.model.specs.Boxes.{Box}
use Rattle.model.specs.declared.domain.Domain.{Domain}
use Rattle.model.specs.declared.domain.Domain.TheVariants.{Empty}
use Rattle.model.specs.Refusals.{some_twice}
use Rattle.table.specs.Relations.{flags_of, row_of}
use Rattle.table.specs.Rules.{Claim, Rule, rules_of, nth_rule, sets_of, set_at, cut_to, Leads, StrikeClosed, ClosureExists, BoolRules}
use Rattle.table.specs.declared.relation.Relation.{Relation}
use Rattle.table.proofs.Computed.{holds, holds_decides, walk, rounds, all_empty, rule_keeps, closed_stays, empty_empties, walk_closes}
use Rattle.table.proofs.Narrowed.{struck_tried}
use Rattle.table.proofs.Tries.{tried}

length-cut_to : (cs : List Claim) (ds : List Domain) → length (cut_to cs ds) ≡ length ds
length-cut_to [] ds = refl
length-cut_to (c ∷ cs) ds = length-cut_to cs (set ds c.0 (cut_set (set_at ds c.0) c.1)) ∙ length-set ds c.0 (cut_set (set_at ds c.0) c.1)

module _ (r : Relation ℕ) where
  led_size : (ks : List ℕ) (ds c : List Domain) → Leads (rules_of r) ks ds c → length c ≡ length ds
  led_size [] ds c e = ap length (sym e)
  led_size (k ∷ ks) ds c l = led_size ks (cut_to (nth_rule (rules_of r) k).conclusions ds) c l.1 ∙ length-cut_to (nth_rule (rules_of r) k).conclusions ds

  -- all along the way trying every tuple leaves the same
  led_same : (ks : List ℕ) (ds c : List Domain) → length ds ≡ length (flags_of r) → Leads (rules_of r) ks ds c → tried ds (row_of r).allows ≡ tried c (row_of r).allows
  led_same [] ds c size e = ap (λ x. tried x (row_of r).allows) e
  led_same (k ∷ ks) ds c size l =
      sym (rule_keeps r ds size k l.0)
      ∙ led_same ks (cut_to (nth_rule (rules_of r) k).conclusions ds) c (length-cut_to (nth_rule (rules_of r) k).conclusions ds ∙ size) l.1

walk_leads : (rules : List Rule) (ks : List ℕ) (ds : List Domain) → (steps : List ℕ) × Leads rules steps ds (walk rules ks ds)
walk_leads rules [] ds = ([], refl)
walk_leads rules (k ∷ ks) ds =
    let rule = nth_rule rules k in
    let Goes : Bool → Type 0 = λ b. (steps : List ℕ) × Leads rules steps ds (walk rules ks (cond b (cut_to rule.conclusions ds) ds)) in
    ⊎_elim
    (λ h. let next = walk_leads rules ks (cut_to rule.conclusions ds) in subst Goes (sym h) (k ∷ next.0, ((holds_decides rule.premises ds).0 h, next.1)))
    (λ h. subst Goes (sym h) (walk_leads rules ks ds))
    (cases_Bool (holds rule.premises ds))

is_empty_true : (d : Domain) → is_empty d ≡ true → d ≡ Empty
is_empty_true Empty e = refl
is_empty_true d e = absurd (false≢true e)

each_empty : (b : Box) (fs : List ℕ) → all_empty (map b fs) ≡ true → (f : ℕ) → elem f fs ≡ true → b f ≡ Empty
each_empty b [] e f i = absurd (false≢true i)
each_empty b (g ∷ gs) e f i =
    let p = and_parts (is_empty (b g)) (all_empty (map b gs)) e in
    let here = is_empty_true (b g) p.0 in
    grind (arith, each_empty b gs p.1 f)

different : (fs : List ℕ) → Distinct fs → some_twice fs ≡ false
different [] d = refl
different (f ∷ fs) d = grind (arith, different fs d.1)

strike_closed : StrikeClosed
strike_closed r d before after s c k =
    let size : length (sets_of before r) ≡ length (flags_of r) = length-map (flags_of r) before in
    let size-c : length c ≡ length (flags_of r) = led_size r k.steps (sets_of before r) c k.reached ∙ size in
    let e : sets_of after r ≡ tried c (row_of r).allows = struck_tried r (different (flags_of r) d) before after s ∙ led_same r k.steps (sets_of before r) c size k.reached in (
      (λ h. each_empty after (flags_of r) (subst (λ x. all_empty x ≡ true) (sym e) (empty_empties r c size-c h))),
      (λ h. e ∙ closed_stays r c size-c k.closed h),
    )

closure_exists : ClosureExists
closure_exists r before =
    let ds = sets_of before r in
    let way = walk_leads (rules_of r) rounds ds in
    (walk (rules_of r) rounds ds, record { steps = way.0; reached = way.1; closed = walk_closes r ds (length-map (flags_of r) before) })

pub bool_rules : BoolRules
bool_rules = record { strike = strike_closed; exists = closure_exists }
