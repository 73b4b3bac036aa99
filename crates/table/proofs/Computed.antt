-- Tests of the rules over all sets, computed.
use Rattle.std.proofs.Common.{◌≡◌, ℕ, zero, suc, Bool, true, false, cond, not, ◌&&◌, ◌||◌, List, [], ◌∷◌, length, refl, ⊎_elim, arith, rules}
use Rattle.std.specs.Bool.{Decides}
use Rattle.std.specs.Cmp.Lexicographic.{pointwise}
use Rattle.std.specs.List.{list_all}
use Rattle.std.proofs.lemmas.Bool.{and_from, or_cases, both_ways, false≢true, cases_lt}
use Rattle.std.proofs.lemmas.Bool.Decides.{Decides-and}
use Rattle.std.proofs.lemmas.List.{get_or_past}
use Rattle.std.proofs.lemmas.List.Sums.{AllPass-from_list_all}
use Rattle.std.proofs.lemmas.Slice.Eq.{slice_eq-Decides}
use Rattle.model.specs.Domains.{is_empty, only}
use Rattle.model.specs.contracts.domain.Domain.{the_type}
use Rattle.model.specs.declared.domain.Domain.{Domain}
use Rattle.model.specs.declared.domain.Domain.TheVariants.{Empty, Zero, One, Open}
use Rattle.table.specs.Relations.{flags_of, row_of}
use Rattle.table.specs.Rules.{Claim, Rule, ◌⇒◌, rules_of, nth_rule, set_at, Hold, cut_to, some_empty}
use Rattle.table.specs.declared.relation.Relation.{Relation}
use Rattle.table.specs.declared.relation.Relation.TheVariants.{Equal}
use Rattle.table.proofs.Tries.{tried}
use denote.Enum.Bare.{sameb, same_true, true_same}

-- every list of n sets passes
abbrev all_sets : (Domain → Bool) → Bool
all_sets p = p Empty && (p Zero && (p One && p Open))

abbrev all_lists : ℕ → (List Domain → Bool) → Bool
all_lists zero p = p []
all_lists (suc n) p = all_sets (λ d. all_lists n (λ ds. p (d ∷ ds)))

each_set : (p : Domain → Bool) → all_sets p ≡ true → (d : Domain) → p d ≡ true
each_set p h Empty = grind arith
each_set p h Zero = grind arith
each_set p h One = grind arith
each_set p h Open = grind arith

each_list : (n : ℕ) (p : List Domain → Bool) → all_lists n p ≡ true → (ds : List Domain) → length ds ≡ n → p ds ≡ true
each_list zero p h [] e = h
each_list zero p h (d ∷ ds) e = absurd (omega arith)
each_list (suc n) p h [] e = absurd (omega arith)
each_list (suc n) p h (d ∷ ds) e = each_list n (λ es. p (d ∷ es)) (each_set (λ x. all_lists n (λ es. p (x ∷ es))) h d) ds (omega arith)

abbrev ◌implies◌ : Bool → Bool → Bool
a implies b = not a || b

infixr 20 ◌implies◌
follows : (a b : Bool) → (a implies b) ≡ true → a ≡ true → b ≡ true
follows true b h e = h
follows false b h e = absurd (false≢true e)

implied : (a b : Bool) → (a ≡ true → b ≡ true) → (a implies b) ≡ true
implied true b h = h refl
implied false b h = refl

-- the same sets, and the same lists of them
same_set : (d e : Domain) → Decides (sameb the_type d e) (d ≡ e)
same_set d e = (same_true the_type (search rules) d e, true_same the_type d e)

abbrev same : List Domain → List Domain → Bool
same = pointwise (sameb the_type)

same_lists : (ds es : List Domain) → Decides (same ds es) (ds ≡ es)
same_lists ds es = slice_eq-Decides same_set ds es (same ds es) refl

-- whether claims hold
abbrev pub holds : List Claim → List Domain → Bool
holds cs ds = list_all (λ c. sameb the_type (set_at ds c.0) (only c.1)) cs

pub holds_decides : (cs : List Claim) (ds : List Domain) → Decides (holds cs ds) (Hold cs ds)
holds_decides [] ds = (λ h. tt, λ h. refl)
holds_decides (c ∷ cs) ds =
    Decides-and _ (holds cs ds) (same_set (set_at ds c.0) (only c.1)) (holds_decides cs ds)

-- what passes at every rule passes at each number
every_nth : (rules : List Rule) (p : Rule → Bool) → p ([] ⇒ []) ≡ true → list_all p rules ≡ true → (k : ℕ) → p (nth_rule rules k) ≡ true
every_nth rules p n h k = ⊎_elim
    (AllPass-from_list_all p rules h k ([] ⇒ []))
    (λ past. rw (get_or_past rules k ([] ⇒ []) past) n)
    (cases_lt k (length rules))

nth-every : (rules : List Rule) (p : Rule → Bool) → ((k : ℕ) → p (nth_rule rules k) ≡ true) → list_all p rules ≡ true
nth-every [] p h = refl
nth-every (rule ∷ rules) p h = and_from (p rule) (list_all p rules) (h 0) (nth-every rules p (λ k. h (suc k)))

-- a rule alters nothing
abbrev idle : List Domain → Rule → Bool
idle ds rule = holds rule.premises ds implies same (cut_to rule.conclusions ds) ds

abbrev closed : List Rule → List Domain → Bool
closed rules ds = list_all (idle ds) rules

-- rules by their numbers, each where its premises hold
abbrev pub walk : List Rule → List ℕ → List Domain → List Domain
walk rules [] ds = ds
walk rules (k ∷ ks) ds = walk rules ks (cond (holds (nth_rule rules k).premises ds) (cut_to (nth_rule rules k).conclusions ds) ds)

-- every rule of a kind, twice over
abbrev pub rounds : List ℕ
rounds = 0 ∷ (1 ∷ (2 ∷ (3 ∷ (4 ∷ (5 ∷ (0 ∷ (1 ∷ (2 ∷ (3 ∷ (4 ∷ (5 ∷ [])))))))))))

abbrev pub all_empty : List Domain → Bool
all_empty = list_all is_empty

module _ (r : Relation ℕ) where
  abbrev leaves : List Domain → List Domain
  leaves ds = tried ds (row_of r).allows

  -- no rule alters what trying every tuple leaves
  abbrev keeps : List Domain → Rule → Bool
  keeps ds rule = holds rule.premises ds implies same (leaves (cut_to rule.conclusions ds)) (leaves ds)

  abbrev keeping : List Domain → Bool
  keeping ds = list_all (keeps ds) (rules_of r)

  -- where no rule alters anything and no set is empty, every value is left
  abbrev settling : List Domain → Bool
  settling ds = closed (rules_of r) ds implies (some_empty ds || same (leaves ds) ds)

  -- one empty set leaves all empty
  abbrev dying : List Domain → Bool
  dying ds = some_empty ds implies all_empty (leaves ds)

  -- two rounds of the rules are enough
  abbrev ending : List Domain → Bool
  ending ds = closed (rules_of r) (walk (rules_of r) rounds ds)

  abbrev always : (List Domain → Bool) → Type 0
  always p = all_lists (length (flags_of r)) p ≡ true

computed : (r : Relation ℕ) → always r (keeping r) × always r (settling r) × always r (dying r) × always r (ending r)
computed (Equal x y) = (refl, refl, refl, refl)
computed r = (refl, refl, refl, refl)

module _ (r : Relation ℕ) (ds : List Domain) (size : length ds ≡ length (flags_of r)) where
  passes : (p : List Domain → Bool) → always r p → p ds ≡ true
  passes p h = each_list (length (flags_of r)) p h ds size

  pub rule_keeps : (k : ℕ) → Hold (nth_rule (rules_of r) k).premises ds → tried (cut_to (nth_rule (rules_of r) k).conclusions ds) (row_of r).allows ≡ tried ds (row_of r).allows
  rule_keeps k h =
      let rule = nth_rule (rules_of r) k in
      let kept = every_nth (rules_of r) (keeps r ds) ((same_lists (leaves r ds) (leaves r ds)).1 refl) (passes (keeping r) (computed r).0) k in
      (same_lists _ _).0 (follows (holds rule.premises ds) _ kept ((holds_decides rule.premises ds).1 h))

  pub closed_stays : ((k : ℕ) → Hold (nth_rule (rules_of r) k).premises ds → cut_to (nth_rule (rules_of r) k).conclusions ds ≡ ds) → some_empty ds ≡ false → tried ds (row_of r).allows ≡ ds
  closed_stays c n =
      let idles = nth-every (rules_of r) (idle ds) (λ k.
      let rule = nth_rule (rules_of r) k in
      implied (holds rule.premises ds) _ (λ h. (same_lists (cut_to rule.conclusions ds) ds).1 (c k ((holds_decides rule.premises ds).0 h)))) in
      let settled = follows (closed (rules_of r) ds) _ (passes (settling r) (computed r).1) idles in
      ⊎_elim (λ e. absurd (both_ways (some_empty ds) n e)) (same_lists (leaves r ds) ds).0 (or_cases (some_empty ds) (same (leaves r ds) ds) settled)

  pub empty_empties : some_empty ds ≡ true → all_empty (tried ds (row_of r).allows) ≡ true
  empty_empties e = follows (some_empty ds) _ (passes (dying r) (computed r).2) e

  pub walk_closes : (k : ℕ) → Hold (nth_rule (rules_of r) k).premises (walk (rules_of r) rounds ds) → cut_to (nth_rule (rules_of r) k).conclusions (walk (rules_of r) rounds ds) ≡ walk (rules_of r) rounds ds
  walk_closes k h =
      let c = walk (rules_of r) rounds ds in
      let rule = nth_rule (rules_of r) k in
      let idles = every_nth (rules_of r) (idle c) ((same_lists c c).1 refl) (passes (ending r) (computed r).3) k in
      (same_lists (cut_to rule.conclusions c) c).0 (follows (holds rule.premises c) _ idles ((holds_decides rule.premises c).1 h))
