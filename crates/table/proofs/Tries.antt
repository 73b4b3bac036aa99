-- Trying every tuple, for any list of flags: it leaves exactly the values that have support.
use Rattle.std.proofs.Common.{◌≡◌, ℕ, Bool, true, false, cond, ◌&&◌, eqb, List, [], ◌∷◌, map, length, sym, refl, ap, ◌∙◌, subst, ap₂, ⊎_elim, arith}
use Rattle.std.proofs.lemmas.Bool.{or_cases, or_parts, and_parts, and_from, eqb-true, eq-eqb, ne_eqb, false≢true, cond-true, cond-false}
use Rattle.model.specs.Domains.{has, Has}
use Rattle.model.specs.Rows.{Valuation, elem}
use Rattle.model.specs.Boxes.{Box}
use Rattle.model.specs.declared.domain.Domain.{Domain}
use Rattle.model.proofs.Members.{in_here, in_more, apart}
use Rattle.model.proofs.Revise.{map_agrees}
use Rattle.model.proofs.Sets.{has-set_of}
use Rattle.table.specs.Left.{some_in, those}
use Rattle.model.specs.Refusals.{some_twice}

-- some tuple from the sets passes a test
abbrev pub some_tuple : List Domain → (List Bool → Bool) → Bool
some_tuple [] p = p []
some_tuple (s ∷ ss) p = some_in s (λ v. some_tuple ss (λ vs. p (v ∷ vs)))

-- of each set the values that some passing tuple from the sets has there
abbrev pub tried : List Domain → (List Bool → Bool) → List Domain
tried [] p = []
tried (s ∷ ss) p = those s (λ v. some_tuple ss (λ vs. p (v ∷ vs))) ∷ tried ss (λ vs. some_in s (λ v. p (v ∷ vs)))

pub length-tried : (ss : List Domain) (p : List Bool → Bool) → length (tried ss p) ≡ length ss
length-tried [] p = refl
length-tried (s ∷ ss) p = cc (length-tried ss (λ vs. some_in s (λ v. p (v ∷ vs))))

some_in_has : (s : Domain) (p : Bool → Bool) (v : Bool) → Has s v → p v ≡ true → some_in s p ≡ true
some_in_has s p false h t = grind arith
some_in_has s p true h t = grind arith

some_in_found : (s : Domain) (p : Bool → Bool) → some_in s p ≡ true → (v : Bool) × Has s v × (p v ≡ true)
some_in_found s p t = ⊎_elim
    (λ a. let q = and_parts (has s false) (p false) a in (false, q.0, q.1))
    (λ a. let q = and_parts (has s true) (p true) a in (true, q.0, q.1))
    (or_cases (has s false && p false) (has s true && p true) t)

has-those : (s : Domain) (p : Bool → Bool) (v : Bool) → has (those s p) v ≡ (has s v && p v)
has-those s p true = has-set_of (has s false && p false) (has s true && p true) true
has-those s p false = has-set_of (has s false && p false) (has s true && p true) false

module _ (old : Box) where
  -- values that lie in the box at some flags and pass a test there
  pub record Passing (fs : List ℕ) (p : List Bool → Bool) : Type 0 where
    pub values : Valuation
    pub passes : p (map values fs) ≡ true
    pub inside : (g : ℕ) → elem g fs ≡ true → Has (old g) (values g)

  some_tuple_has : (fs : List ℕ) (p : List Bool → Bool) → Passing fs p → some_tuple (map old fs) p ≡ true
  some_tuple_has [] p w = w.passes
  some_tuple_has (f ∷ fs) p w =
      some_in_has (old f) (λ v. some_tuple (map old fs) (λ vs. p (v ∷ vs))) (w.values f) (w.inside f (in_here f fs))
      (some_tuple_has fs (λ vs. p (w.values f ∷ vs)) (record { values = w.values; passes = w.passes; inside = λ g i. w.inside g (in_more g f fs i) }))

  -- one flag more
  module _ (f : ℕ) (fs : List ℕ) (new-flag : elem f fs ≡ false) (p : List Bool → Bool) (v : Bool) (h : Has (old f) v) (w : Passing fs (λ vs. p (v ∷ vs))) where
    abbrev with_value : Valuation
    with_value g = cond (eqb g f) v (w.values g)

    value_here : with_value f ≡ v
    value_here = cond-true (eqb f f) v (w.values f) (eq-eqb f f refl)

    value_there : (g : ℕ) → elem g fs ≡ true → with_value g ≡ w.values g
    value_there g i = cond-false (eqb g f) v (w.values g) (ne_eqb g f (apart g f fs new-flag i))

    abbrev one_more : Passing (f ∷ fs) p
    one_more = record {
      values = with_value;
      passes = ap p (ap₂ (λ x xs. x ∷ xs) value_here (map_agrees with_value w.values fs value_there)) ∙ w.passes;
      inside = λ g i. ⊎_elim
          (λ e. subst (λ x. Has (old x) (with_value x)) (sym (eqb-true g f e)) (subst (λ x. Has (old f) x) (sym value_here) h))
          (λ j. subst (λ x. Has (old g) x) (sym (value_there g j)) (w.inside g j))
          (or_cases (eqb g f) (elem g fs) i);
    }

  some_tuple_found : (fs : List ℕ) → some_twice fs ≡ false → (p : List Bool → Bool) → some_tuple (map old fs) p ≡ true → Passing fs p
  some_tuple_found [] d p t = record { values = λ _. false; passes = t; inside = λ g i. absurd (false≢true i) }
  some_tuple_found (f ∷ fs) d p t =
      let n = or_parts (elem f fs) (some_twice fs) d in
      let x = some_in_found (old f) (λ v. some_tuple (map old fs) (λ vs. p (v ∷ vs))) t in
      one_more f fs n.0 p x.0 x.1 (some_tuple_found fs n.1 (λ vs. p (x.0 ∷ vs)) x.2)

  module _ (new : Box) where
    abbrev Tried : List ℕ → (List Bool → Bool) → Type 0
    Tried fs p = map new fs ≡ tried (map old fs) p

    head_tried : (f : ℕ) (fs : List ℕ) (p : List Bool → Bool) → Tried (f ∷ fs) p → (v : Bool) → has (new f) v ≡ (has (old f) v && some_tuple (map old fs) (λ vs. p (v ∷ vs)))
    head_tried f fs p e v =
        let h : new f ≡ those (old f) (λ v. some_tuple (map old fs) (λ vs. p (v ∷ vs))) = cc in
        ap (λ x. has x v) h ∙ has-those (old f) (λ v. some_tuple (map old fs) (λ vs. p (v ∷ vs))) v

    tail_tried : (f : ℕ) (fs : List ℕ) (p : List Bool → Bool) → Tried (f ∷ fs) p → Tried fs (λ vs. some_in (old f) (λ v. p (v ∷ vs)))
    tail_tried f fs p e = cc

    -- what passing values have is left
    pub kept : (fs : List ℕ) (p : List Bool → Bool) → Tried fs p → (w : Passing fs p) (f : ℕ) → elem f fs ≡ true → Has (new f) (w.values f)
    kept [] p e w f i = absurd (false≢true i)
    kept (g ∷ gs) p e w f i =
        let rest : (k : ℕ) → elem k gs ≡ true → Has (old k) (w.values k) = λ k j. w.inside k (in_more k g gs j) in
        let here : Has (old g) (w.values g) = w.inside g (in_here g gs) in
        ⊎_elim
        (λ q. subst (λ x. Has (new x) (w.values x)) (sym (eqb-true f g q))
        (head_tried g gs p e (w.values g) ∙ and_from (has (old g) (w.values g)) _ here (some_tuple_has gs (λ vs. p (w.values g ∷ vs)) (record { values = w.values; passes = w.passes; inside = rest }))))
        (λ j. kept gs (λ vs. some_in (old g) (λ v. p (v ∷ vs))) (tail_tried g gs p e)
        (record { values = w.values; passes = some_in_has (old g) (λ v. p (v ∷ map w.values gs)) (w.values g) here w.passes; inside = rest }) f j)
        (or_cases (eqb f g) (elem f gs) i)

    -- what is left, passing values have
    pub found : (fs : List ℕ) → some_twice fs ≡ false → (p : List Bool → Bool) → Tried fs p → (f : ℕ) → elem f fs ≡ true → (v : Bool) → Has (new f) v → (w : Passing fs p) × (w.values f ≡ v)
    found [] d p e f i v h = absurd (false≢true i)
    found (g ∷ gs) d p e f i v h =
        let n = or_parts (elem g gs) (some_twice gs) d in
        ⊎_elim
        (λ q. let here : Has (new g) v = subst (λ x. Has (new x) v) (eqb-true f g q) h in
        let t = and_parts (has (old g) v) (some_tuple (map old gs) (λ vs. p (v ∷ vs))) (sym (head_tried g gs p e v) ∙ here) in
        let w = some_tuple_found gs n.1 (λ vs. p (v ∷ vs)) t.1 in
        (one_more g gs n.0 p v t.0 w, subst (λ x. (one_more g gs n.0 p v t.0 w).values x ≡ v) (sym (eqb-true f g q)) (value_here g gs n.0 p v t.0 w)))
        (λ j. let y = found gs n.1 (λ vs. some_in (old g) (λ u. p (u ∷ vs))) (tail_tried g gs p e) f j v h in
        let x = some_in_found (old g) (λ u. p (u ∷ map y.0.values gs)) y.0.passes in
        let w : Passing gs (λ vs. p (x.0 ∷ vs)) = record { values = y.0.values; passes = x.2; inside = y.0.inside } in
        (one_more g gs n.0 p x.0 x.1 w, value_there g gs n.0 p x.0 x.1 w f j ∙ y.1))
        (or_cases (eqb f g) (elem f gs) i)
