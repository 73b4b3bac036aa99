-- Support by values for every flag is support by a tuple of the row.
use Rattle.std.proofs.Common.{◌≡◌, ℕ, Bool, true, false, cond, eqb, List, [], ◌∷◌, map, sym, refl, ap, ◌∙◌, subst, ap₂, inl, inr, ⊎_elim}
use Rattle.std.proofs.lemmas.Bool.{cases_Bool, both_ways, or_cases, or_left, or_right, eqb-true, eq-eqb, ne_eqb, false≢true, cond-true, cond-false}
use Rattle.model.specs.Domains.{Has}
use Rattle.model.specs.Rows.{Valuation, elem, Distinct}
use Rattle.model.specs.Boxes.{Box}
use Rattle.model.specs.Laws.{SupportByTuple, Takes, Gives}
use Rattle.model.proofs.Revise.{map_agrees}

-- the value that a tuple has at a flag
abbrev look : List ℕ → List Bool → Valuation
look [] vs g = false
look (f ∷ fs) [] g = false
look (f ∷ fs) (v ∷ vs) g = cond (eqb g f) v (look fs vs g)

map_takes : (b : Box) (s : Valuation) (fs : List ℕ) → ((g : ℕ) → elem g fs ≡ true → Has (b g) (s g)) → Takes b fs (map s fs)
map_takes b s [] h = tt
map_takes b s (f ∷ fs) h = (h f (or_left (eqb f f) (elem f fs) (eq-eqb f f refl)), map_takes b s fs (λ g o. h g (or_right (eqb g f) (elem g fs) o)))

map_gives : (s : Valuation) (f : ℕ) (v : Bool) (fs : List ℕ) → s f ≡ v → elem f fs ≡ true → Gives f v fs (map s fs)
map_gives s f v [] e o = absurd (false≢true o)
map_gives s f v (g ∷ gs) e o = ⊎_elim
    (λ q. inl (eqb-true f g q, sym e ∙ ap s (eqb-true f g q)))
    (λ q. inr (map_gives s f v gs e q))
    (or_cases (eqb f g) (elem f gs) o)

map_look : (b : Box) (fs : List ℕ) (vs : List Bool) → Distinct fs → Takes b fs vs → map (look fs vs) fs ≡ vs
map_look b [] [] d t = refl
map_look b [] (v ∷ vs) d t = absurd t
map_look b (f ∷ fs) [] d t = absurd t
map_look b (f ∷ fs) (v ∷ vs) d t =
    ap₂ (λ x xs. x ∷ xs)
    (cond-true (eqb f f) v (look fs vs f) (eq-eqb f f refl))
    (map_agrees (look (f ∷ fs) (v ∷ vs)) (look fs vs) fs (λ g o. cond-false (eqb g f) v (look fs vs g) (ne_eqb g f (λ q. both_ways (elem f fs) d.0 (subst (λ y. elem y fs ≡ true) q o)))) ∙ map_look b fs vs d.1 t.1)

look_inside : (b : Box) (fs : List ℕ) (vs : List Bool) → Takes b fs vs → (g : ℕ) → elem g fs ≡ true → Has (b g) (look fs vs g)
look_inside b [] vs t g o = absurd (false≢true o)
look_inside b (f ∷ fs) [] t g o = absurd t
look_inside b (f ∷ fs) (v ∷ vs) t g o = ⊎_elim
    (λ q. subst (λ x. Has (b g) x) (sym (cond-true (eqb g f) v (look fs vs g) q)) (subst (λ y. Has (b y) v) (sym (eqb-true g f q)) t.0))
    (λ q. subst (λ x. Has (b g) x) (sym (cond-false (eqb g f) v (look fs vs g) q))
    (look_inside b fs vs t.1 g (⊎_elim (λ e. absurd (both_ways (eqb g f) q e)) (λ e. e) (or_cases (eqb g f) (elem g fs) o))))
    (cases_Bool (eqb g f))

gives_elem : (f : ℕ) (v : Bool) (fs : List ℕ) (vs : List Bool) → Gives f v fs vs → elem f fs ≡ true
gives_elem f v [] vs h = absurd h
gives_elem f v (g ∷ gs) [] h = absurd h
gives_elem f v (g ∷ gs) (w ∷ ws) h = ⊎_elim (λ e. or_left (eqb f g) (elem f gs) (eq-eqb f g e.0)) (λ e. or_right (eqb f g) (elem f gs) (gives_elem f v gs ws e)) h

look_gives : (f : ℕ) (v : Bool) (fs : List ℕ) (vs : List Bool) → Distinct fs → Gives f v fs vs → look fs vs f ≡ v
look_gives f v [] vs d h = absurd h
look_gives f v (g ∷ gs) [] d h = absurd h
look_gives f v (g ∷ gs) (w ∷ ws) d h = ⊎_elim
    (λ e. cond-true (eqb f g) w (look gs ws f) (eq-eqb f g e.0) ∙ sym e.1)
    (λ e. cond-false (eqb f g) w (look gs ws f) (ne_eqb f g (λ q. both_ways (elem g gs) d.0 (subst (λ y. elem y gs ≡ true) q (gives_elem f v gs ws e)))) ∙ look_gives f v gs ws d.1 e)
    h

pub tuples : SupportByTuple
tuples r b f v fit o = (
  (λ s. (map s.values r.flags, s.meets, map_takes b s.values r.flags s.inside, map_gives s.values f v r.flags s.here o)),
  (λ t. record {
    values = look r.flags t.0;
    here = look_gives f v r.flags t.0 fit.different t.3;
    meets = ap r.allows (map_look b r.flags t.0 fit.different t.2) ∙ t.1;
    inside = look_inside b r.flags t.0 t.2;
  }),
)
