-- Narrowing the sets of a relation's flags strikes the row that it means.
use Rattle.std.proofs.Common.{◌≡◌, ℕ, false, map, length, sym, refl, ap, ◌∙◌, subst, ⊎_elim, arith}
use lib.ListN.{length-map}
use Rattle.std.proofs.lemmas.Bool.{cases_Bool, false≢true}
use Rattle.model.specs.Domains.{Has}
use Rattle.model.specs.Rows.{on, On}
use Rattle.model.specs.Boxes.{Box}
use Rattle.model.specs.Strikes.{Struck, Emptied, Says, Strikes}
use Rattle.model.specs.declared.domain.Domain.TheVariants.{Empty}
use Rattle.model.specs.declared.strike.Strike.{Strike}
use Rattle.model.specs.declared.strike.Strike.TheVariants.{Unchanged, Changed, Dead}
use Rattle.model.proofs.Sets.{some_value, same_sets}
use Rattle.model.proofs.Striking.{off}
use Rattle.table.specs.Left.{left}
use Rattle.table.specs.Narrowing.{with_sets, Tells, Narrows}
use Rattle.model.specs.Refusals.{some_twice}
use Rattle.table.specs.Relations.{first, parts, each, flags_of, row_of}
use Rattle.table.specs.declared.relation.Relation.{Relation}
use Rattle.table.specs.declared.relation.Relation.TheVariants.{Equal}
use Rattle.table.proofs.Tries.{tried, length-tried, kept, found}
use Rattle.table.proofs.Writing.{map_same, alike, differ_on, with_sets_other, with_sets_here}

-- what is left of the sets of the flags is what trying every tuple leaves
left_tried : (b : Box) (r : Relation ℕ) → parts (left (each b r)) ≡ tried (map b (flags_of r)) (row_of r).allows
left_tried b (Equal x y) = refl
left_tried b r = refl

first_on : (r : Relation ℕ) → On (row_of r) (first r)
first_on (Equal x y) = grind arith
first_on r = grind arith

-- a relation of sets is known by its parts
by_parts : (a b : Box) (r : Relation ℕ) → map a (flags_of r) ≡ parts (left (each b r)) → each a r ≡ left (each b r)
by_parts a b (Equal x y) e = cc
by_parts a b r e = cc

first_each : (a : Box) (r : Relation ℕ) → first (each a r) ≡ a (first r)
first_each a (Equal x y) = refl
first_each a r = refl

parts_each : (a : Box) (r : Relation ℕ) → parts (each a r) ≡ map a (flags_of r)
parts_each a (Equal x y) = refl
parts_each a r = refl

same_each : (a b : Box) (r : Relation ℕ) → map a (flags_of r) ≡ map b (flags_of r) → each a r ≡ each b r
same_each a b (Equal x y) e = cc
same_each a b r e = cc

-- a box that has at the flags what is left, and is else as before
module _ (r : Relation ℕ) (different : some_twice (flags_of r) ≡ false) (before after : Box)
    (here : map after (flags_of r) ≡ parts (left (each before r))) (rest : (f : ℕ) → on (row_of r) f ≡ false → after f ≡ before f) where
  pub struck : Struck (row_of r) before after
  struck =
      let e : map after (flags_of r) ≡ tried (map before (flags_of r)) (row_of r).allows = here ∙ left_tried before r in
      record {
        kept = λ f o v. (
          (λ h. let w = found before after (flags_of r) different (row_of r).allows e f o v h in record { values = w.0.values; here = w.1; meets = w.0.passes; inside = w.0.inside }),
          (λ s. subst (λ x. Has (after f) x) s.here (kept before after (flags_of r) (row_of r).allows e (record { values = s.values; passes = s.meets; inside = s.inside }) f o)),
        );
        rest = λ f n. rest f (off (row_of r) f n);
      }

  sets : each after r ≡ left (each before r)
  sets = by_parts after before r here

  first_set : first (left (each before r)) ≡ after (first r)
  first_set = ap first (sym sets) ∙ first_each after r

  -- where the first flag has a value, its support has one for each other flag
  none_emptied : (first (left (each before r)) ≡ Empty → ⊥) → Emptied (row_of r) after → ⊥
  none_emptied n x =
      let y = some_value (after (first r)) (λ q. n (first_set ∙ q)) in
      let s = (struck.kept (first r) (first_on r) y.0).0 y.1 in
      let h = (struck.kept x.0 x.1 (s.values x.0)).1 (record { values = s.values; here = refl; meets = s.meets; inside = s.inside }) in
      false≢true (subst (λ d. Has d (s.values x.0)) x.2 h)

  pub says : (a : Strike) → Tells a (each before r) (left (each before r)) → Says a (row_of r) before after
  says Dead t = (first r, first_on r, sym first_set ∙ t)
  says Changed t = (none_emptied t.0, ⊎_elim (λ e. absurd (t.1 (sym sets ∙ same_each after before r e))) (λ d. d) (differ_on after before (flags_of r)))
  says Unchanged t =
      let e : map after (flags_of r) ≡ map before (flags_of r) = sym (parts_each after r) ∙ ap parts (sets ∙ t.1) ∙ parts_each before r in
      (none_emptied t.0, λ f. ⊎_elim (λ o. alike after before (flags_of r) e f o) (λ o. rest f o) (cases_Bool (on (row_of r) f)))

module _ (r : Relation ℕ) (different : some_twice (flags_of r) ≡ false) (before : Box) where
  -- the box that narrowing writes
  abbrev narrowed : Box
  narrowed = with_sets (parts r) (parts (left (each before r))) before

  narrowed_here : map narrowed (flags_of r) ≡ parts (left (each before r))
  narrowed_here =
      with_sets_here (flags_of r) (parts (left (each before r))) before different
      (ap length (left_tried before r) ∙ length-tried (map before (flags_of r)) (row_of r).allows ∙ length-map (flags_of r) before)

  narrowed_rest : (f : ℕ) → on (row_of r) f ≡ false → narrowed f ≡ before f
  narrowed_rest f n = with_sets_other (flags_of r) (parts (left (each before r))) before f n

  pub strikes : (after : Box) (a : Strike) → Narrows r before after a → Strikes (row_of r) before after a
  strikes after a n =
      subst (λ b. Strikes (row_of r) before b a) (sym n.sets)
      (record { left = struck r different before narrowed narrowed_here narrowed_rest; says = says r different before narrowed narrowed_here narrowed_rest a n.tells })

  -- what a strike leaves of the sets is what trying every tuple leaves
  pub struck_tried : (after : Box) → Struck (row_of r) before after → map after (flags_of r) ≡ tried (map before (flags_of r)) (row_of r).allows
  struck_tried after s =
      let t = struck r different before narrowed narrowed_here narrowed_rest in
      map_same after narrowed (flags_of r)
      (λ f o. same_sets (after f) (narrowed f) (λ v h. (t.kept f o v).1 ((s.kept f o v).0 h)) (λ v h. (s.kept f o v).1 ((t.kept f o v).0 h)))
      ∙ narrowed_here
      ∙ left_tried before r
