-- Of the binders round a formula the innermost of the name alone counts for the test; and parts side by side.
use Rattle.std.proofs.Common.{◌≡◌, ◌+◌, ℕ, zero, suc, List, [], ◌∷◌, ◌++◌, Bool, true, false, Option, Some, Ok, Err, map, length, drop, refl, sym, ap, ◌∙◌, arith}
use Rattle.std.specs.Prelude.{if◌then◌else◌, slice_get, not, ◌&&◌}
use Rattle.std.specs.Str.{bytes_eq}
use Rattle.std.proofs.lemmas.List.{map-append}
use Rattle.sap_terms.proofs.PlainLaws.Lists.{drop_got}
use Rattle.sap_terms.specs.Signature.{Sig}
use Rattle.sap_terms.specs.Tree.{Tree, Trees, variable, public, fresh, apply, none, more, trees_of, list_of-trees_of, list_of}
use Rattle.sap_terms.specs.declared.var.Var.{Var}
use Rattle.sap_formula.specs.Checked.{binder_name, enter, find_binder, premise}
use Rattle.sap_formula.specs.Form.{Form, truth, falsity, action, equal, same_time, earlier, negation, both, either, implies, equivalent, every, exists}
use Rattle.sap_formula.specs.Parts.{Part, symbol, fact_name, message, time, bound, term_parts, terms_parts, form_parts}
use Rattle.sap_formula.specs.declared.binder.Binder.{Binder}
use Rattle.sap_formula.specs.declared.fault.FormulaFlaw.{FormulaFlaw}
use Rattle.sap_formula.specs.declared.fault.FormulaFlaw.TheVariants.{BadFunction, Destructor, Reserved, UnboundVar, Unguarded}
use Rattle.sap_formula_words.specs.code.Walk.{next}
use Rattle.sap_formula_words.specs.code.Faulty.{unless_found, past, first_of_all, bounds, binds_message, binds_time, is_faulty, scope_of, innermost}

-- one after another
pub first_append : (p : Part → Bool) (xs ys : List Part) (n : ℕ) → first_of_all p (xs ++ ys) n ≡ unless_found (first_of_all p xs n) (first_of_all p ys)
unfolding first_of_all unless_found
first_append p [] ys n = refl
first_append p (x ∷ xs) ys n = at (p x) (first_append p xs ys (next n))
  where
    at : (b : Bool) → first_of_all p (xs ++ ys) (next n) ≡ unless_found (first_of_all p xs (next n)) (first_of_all p ys)
        → unless_found (past b n) (first_of_all p (xs ++ ys)) ≡ unless_found (unless_found (past b n) (first_of_all p xs)) (first_of_all p ys)
    at true h = refl
    at false h = h

-- one alone
pub first_alone : (p : Part → Bool) (x : Part) (n : ℕ) → first_of_all p (x ∷ []) n ≡ past (p x) n
unfolding first_of_all unless_found
first_alone p x n = at (p x)
  where
    at : (b : Bool) → unless_found (past b n) (first_of_all p []) ≡ past b n
    at true = refl
    at false = refl

-- one before others
pub first_before : (p : Part → Bool) (x : Part) (xs : List Part) (n : ℕ) → first_of_all p (x ∷ xs) n ≡ unless_found (past (p x) n) (first_of_all p xs)
unfolding first_of_all
first_before p x xs n = refl

-- equal tests
same_first : (p : Part → Bool) (xs ys : List Part) (n : ℕ) → map p xs ≡ map p ys → first_of_all p xs n ≡ first_of_all p ys n
unfolding first_of_all unless_found
same_first p [] [] n e = refl
same_first p [] (y ∷ ys) n e = absurd (cc (e))
same_first p (x ∷ xs) [] n e = absurd (cc (e))
same_first p (x ∷ xs) (y ∷ ys) n e =
    let here : p x ≡ p y = cc (e) in
    let others : map p xs ≡ map p ys = cc (e) in
    ap (λ b. unless_found (past b n) (first_of_all p xs)) here ∙ at (p y) (same_first p xs ys (next n) others)
  where
    at : (b : Bool) → first_of_all p xs (next n) ≡ first_of_all p ys (next n) → unless_found (past b n) (first_of_all p xs) ≡ unless_found (past b n) (first_of_all p ys)
    at true h = refl
    at false h = h

-- the innermost of the name inside these binders
enter_finds : (x : List ℕ) (bs scope : List Binder) → find_binder (enter bs scope) x ≡ innermost x bs (find_binder scope x)
enter_finds x [] scope = refl
enter_finds x (b ∷ bs) scope = enter_finds x bs (b ∷ scope)

innermost_finds : (x : List ℕ) (bs s : List Binder) (o : Option Binder) → find_binder s x ≡ find_binder (scope_of o) x → find_binder (enter bs s) x ≡ find_binder (scope_of (innermost x bs o)) x
innermost_finds x [] s o h = h
innermost_finds x (b ∷ bs) s o h = innermost_finds x bs (b ∷ s) (if bytes_eq (binder_name b) x then Some b else o) (at (bytes_eq (binder_name b) x) refl)
  where
    at : (t : Bool) → bytes_eq (binder_name b) x ≡ t → (if t then Some b else find_binder s x) ≡ find_binder (scope_of (if t then Some b else o)) x
    at true e = rw e refl
    at false e = h

module _ (g : Sig) (w : FormulaFlaw) (x : List ℕ) where
  -- the tests of parts inside other binders
  two : (ps qs us vs : List Part) → map (is_faulty g w x) ps ≡ map (is_faulty g w x) us → map (is_faulty g w x) qs ≡ map (is_faulty g w x) vs
      → map (is_faulty g w x) (ps ++ qs) ≡ map (is_faulty g w x) (us ++ vs)
  two ps qs us vs e f =
      map-append (is_faulty g w x) ps qs ∙ (ap (λ bs. bs ++ map (is_faulty g w x) qs) e ∙ (ap (λ bs. map (is_faulty g w x) us ++ bs) f ∙ sym (map-append (is_faulty g w x) us vs)))

  module _ (s z : List Binder) (same : find_binder s x ≡ find_binder z x) where
    near_message : (w : FormulaFlaw) (v : Var) → is_faulty g w x (message s v) ≡ is_faulty g w x (message z v)
    near_message BadFunction v = refl
    near_message Destructor v = refl
    near_message Reserved v = refl
    near_message UnboundVar v = ap (λ o. bytes_eq v.name x && not (binds_message o v.sort)) same
    near_message Unguarded v = refl

    near_time : (w : FormulaFlaw) (n : List ℕ) → is_faulty g w x (time s n) ≡ is_faulty g w x (time z n)
    near_time BadFunction n = refl
    near_time Destructor n = refl
    near_time Reserved n = refl
    near_time UnboundVar n = ap (λ o. bytes_eq n x && not (binds_time o)) same
    near_time Unguarded n = refl

    times : (i : List ℕ) → map (is_faulty g w x) (time s i ∷ []) ≡ map (is_faulty g w x) (time z i ∷ [])
    times i = ap (λ b. b ∷ []) (near_time w i)

    mutual
      near_term : (t : Tree) → map (is_faulty g w x) (term_parts s t) ≡ map (is_faulty g w x) (term_parts z t)
      near_term (variable v) = ap (λ b. b ∷ []) (near_message w v)
      near_term (public n) = refl
      near_term (fresh k) = refl
      near_term (apply f ts) = ap (λ bs. is_faulty g w x (symbol f (length (list_of ts))) ∷ bs) (near_terms ts)

      near_terms : (ts : Trees) → map (is_faulty g w x) (terms_parts s ts) ≡ map (is_faulty g w x) (terms_parts z ts)
      near_terms none = refl
      near_terms (more t ts) = two (term_parts s t) (terms_parts s ts) (term_parts z t) (terms_parts z ts) (near_term t) (near_terms ts)

  inside : (bs s z : List Binder) → find_binder s x ≡ find_binder z x → find_binder (enter bs s) x ≡ find_binder (enter bs z) x
  inside bs s z same = enter_finds x bs s ∙ (ap (innermost x bs) same ∙ sym (enter_finds x bs z))

  near_form : (f : Form) (s z : List Binder) → find_binder s x ≡ find_binder z x → map (is_faulty g w x) (form_parts s f) ≡ map (is_faulty g w x) (form_parts z f)
  near_form truth s z same = refl
  near_form falsity s z same = refl
  near_form (action f i) s z same =
      ap (λ bs. is_faulty g w x (fact_name f.name) ∷ bs)
      (two (terms_parts s (trees_of f.args)) (time s i ∷ []) (terms_parts z (trees_of f.args)) (time z i ∷ []) (near_terms s z same (trees_of f.args)) (times s z same i))
  near_form (equal t u) s z same = two (term_parts s t) (term_parts s u) (term_parts z t) (term_parts z u) (near_term s z same t) (near_term s z same u)
  near_form (same_time i j) s z same = two (time s i ∷ []) (time s j ∷ []) (time z i ∷ []) (time z j ∷ []) (times s z same i) (times s z same j)
  near_form (earlier i j) s z same = two (time s i ∷ []) (time s j ∷ []) (time z i ∷ []) (time z j ∷ []) (times s z same i) (times s z same j)
  near_form (negation f) s z same = near_form f s z same
  near_form (both f h) s z same = two (form_parts s f) (form_parts s h) (form_parts z f) (form_parts z h) (near_form f s z same) (near_form h s z same)
  near_form (either f h) s z same = two (form_parts s f) (form_parts s h) (form_parts z f) (form_parts z h) (near_form f s z same) (near_form h s z same)
  near_form (implies f h) s z same = two (form_parts s f) (form_parts s h) (form_parts z f) (form_parts z h) (near_form f s z same) (near_form h s z same)
  near_form (equivalent f h) s z same = two (form_parts s f) (form_parts s h) (form_parts z f) (form_parts z h) (near_form f s z same) (near_form h s z same)
  near_form (every bs f) s z same =
      two (map (bound (premise f)) bs) (form_parts (enter bs s) f) (map (bound (premise f)) bs) (form_parts (enter bs z) f) refl (near_form f (enter bs s) (enter bs z) (inside bs s z same))
  near_form (exists bs f) s z same = two (map (bound f) bs) (form_parts (enter bs s) f) (map (bound f) bs) (form_parts (enter bs z) f) refl (near_form f (enter bs s) (enter bs z) (inside bs s z same))

  -- a formula below binders, by the innermost of the name
  pub below : (bs : List Binder) (o : Option Binder) (f : Form) (n : ℕ)
      → first_of_all (is_faulty g w x) (form_parts (enter bs (scope_of o)) f) n ≡ first_of_all (is_faulty g w x) (form_parts (scope_of (innermost x bs o)) f) n
  below bs o f n =
      same_first (is_faulty g w x) (form_parts (enter bs (scope_of o)) f) (form_parts (scope_of (innermost x bs o)) f) n
      (near_form f (enter bs (scope_of o)) (scope_of (innermost x bs o)) (innermost_finds x bs (scope_of o) o refl))

-- a symbol before its terms
module _ (p : Part → Bool) (s : List Binder) (f : List ℕ) (ts : List Tree) (n : ℕ) where
  symbol_step : first_of_all p (term_parts s (apply f (trees_of ts))) n ≡ unless_found (past (p (symbol f (length ts))) n) (first_of_all p (terms_parts s (trees_of ts)))
  unfolding first_of_all
  symbol_step = ap (λ (us : List Tree). unless_found (past (p (symbol f (length us))) n) (first_of_all p (terms_parts s (trees_of ts)))) (list_of-trees_of ts)

  pub symbol_found : (j : ℕ) → past (p (symbol f (length ts))) n ≡ Err j → first_of_all p (term_parts s (apply f (trees_of ts))) n ≡ Err j
  unfolding unless_found
  symbol_found j e = symbol_step ∙ ap (λ w. unless_found w (first_of_all p (terms_parts s (trees_of ts)))) e

  pub symbol_goes_on : (m : ℕ) → past (p (symbol f (length ts))) n ≡ Ok m → first_of_all p (term_parts s (apply f (trees_of ts))) n ≡ first_of_all p (terms_parts s (trees_of ts)) m
  unfolding unless_found
  symbol_goes_on m e = symbol_step ∙ ap (λ w. unless_found w (first_of_all p (terms_parts s (trees_of ts)))) e

-- a quantifier's variables before its body
bounds_are : (f : Form) (bs : List Binder) → map (bound f) bs ≡ bounds f bs
bounds_are f [] = refl
bounds_are f (b ∷ bs) = ap (λ ps. bound f b ∷ ps) (bounds_are f bs)

module _ (p : Part → Bool) (s bs : List Binder) (f h : Form) (n : ℕ) where
  body_step : first_of_all p (map (bound h) bs ++ form_parts (enter bs s) f) n ≡ unless_found (first_of_all p (bounds h bs) n) (first_of_all p (form_parts (enter bs s) f))
  body_step = first_append p (map (bound h) bs) (form_parts (enter bs s) f) n ∙ ap (λ ps. unless_found (first_of_all p ps n) (first_of_all p (form_parts (enter bs s) f))) (bounds_are h bs)

  body_found : (j : ℕ) → first_of_all p (bounds h bs) n ≡ Err j → first_of_all p (map (bound h) bs ++ form_parts (enter bs s) f) n ≡ Err j
  unfolding unless_found
  body_found j e = body_step ∙ ap (λ w. unless_found w (first_of_all p (form_parts (enter bs s) f))) e

  body_goes_on : (m : ℕ) → first_of_all p (bounds h bs) n ≡ Ok m → first_of_all p (map (bound h) bs ++ form_parts (enter bs s) f) n ≡ first_of_all p (form_parts (enter bs s) f) m
  unfolding unless_found
  body_goes_on m e = body_step ∙ ap (λ w. unless_found w (first_of_all p (form_parts (enter bs s) f))) e

module _ (p : Part → Bool) (s bs : List Binder) (f : Form) (n : ℕ) where
  pub every_found : (j : ℕ) → first_of_all p (bounds (premise f) bs) n ≡ Err j → first_of_all p (form_parts s (every bs f)) n ≡ Err j
  every_found j e = body_found p s bs f (premise f) n j e

  pub every_goes_on : (m : ℕ) → first_of_all p (bounds (premise f) bs) n ≡ Ok m → first_of_all p (form_parts s (every bs f)) n ≡ first_of_all p (form_parts (enter bs s) f) m
  every_goes_on m e = body_goes_on p s bs f (premise f) n m e

  pub exists_found : (j : ℕ) → first_of_all p (bounds f bs) n ≡ Err j → first_of_all p (form_parts s (exists bs f)) n ≡ Err j
  exists_found j e = body_found p s bs f f n j e

  pub exists_goes_on : (m : ℕ) → first_of_all p (bounds f bs) n ≡ Ok m → first_of_all p (form_parts s (exists bs f)) n ≡ first_of_all p (form_parts (enter bs s) f) m
  exists_goes_on m e = body_goes_on p s bs f f n m e

nothing : {A : Type 0} (xs : List A) (n : ℕ) → n ≡ length xs → drop n xs ≡ []
nothing [] zero e = refl
nothing [] (suc n) e = refl
nothing (x ∷ xs) zero e = absurd (omega (arith, e))
nothing (x ∷ xs) (suc n) e = nothing xs n (omega (arith, e))

-- terms from index k on
module _ (p : Part → Bool) (s : List Binder) (ts : List Tree) (k n : ℕ) where
  terms_step : (t : Tree) → slice_get ts k ≡ Some t
      → first_of_all p (terms_parts s (trees_of (drop k ts))) n ≡ unless_found (first_of_all p (term_parts s t) n) (first_of_all p (terms_parts s (trees_of (drop (k + 1) ts))))
  terms_step t h =
      ap (λ us. first_of_all p (terms_parts s (trees_of us)) n) (drop_got ts k t h) ∙ first_append p (term_parts s t) (terms_parts s (trees_of (drop (k + 1) ts))) n

  pub terms_found : (j : ℕ) (t : Tree) → slice_get ts k ≡ Some t → first_of_all p (term_parts s t) n ≡ Err j → first_of_all p (terms_parts s (trees_of (drop k ts))) n ≡ Err j
  unfolding unless_found
  terms_found j t h e = terms_step t h ∙ ap (λ w. unless_found w (first_of_all p (terms_parts s (trees_of (drop (k + 1) ts))))) e

  pub terms_go_on : (m : ℕ) (t : Tree) → slice_get ts k ≡ Some t → first_of_all p (term_parts s t) n ≡ Ok m
      → first_of_all p (terms_parts s (trees_of (drop k ts))) n ≡ first_of_all p (terms_parts s (trees_of (drop (k + 1) ts))) m
  unfolding unless_found
  terms_go_on m t h e = terms_step t h ∙ ap (λ w. unless_found w (first_of_all p (terms_parts s (trees_of (drop (k + 1) ts))))) e

pub terms_end : (p : Part → Bool) (s : List Binder) (ts : List Tree) (k n : ℕ) → k ≡ length ts → first_of_all p (terms_parts s (trees_of (drop k ts))) n ≡ Ok n
unfolding first_of_all
terms_end p s ts k n e = ap (λ us. first_of_all p (terms_parts s (trees_of us)) n) (nothing ts k e)

-- binders from index k on
module _ (p : Part → Bool) (f : Form) (bs : List Binder) (k n : ℕ) where
  bound_step : (b : Binder) → slice_get bs k ≡ Some b → first_of_all p (bounds f (drop k bs)) n ≡ unless_found (past (p (bound f b)) n) (first_of_all p (bounds f (drop (k + 1) bs)))
  unfolding first_of_all
  bound_step b h = ap (λ us. first_of_all p (bounds f us) n) (drop_got bs k b h)

  pub bound_found : (j : ℕ) (b : Binder) → slice_get bs k ≡ Some b → past (p (bound f b)) n ≡ Err j → first_of_all p (bounds f (drop k bs)) n ≡ Err j
  unfolding unless_found
  bound_found j b h e = bound_step b h ∙ ap (λ w. unless_found w (first_of_all p (bounds f (drop (k + 1) bs)))) e

  pub bound_goes_on : (m : ℕ) (b : Binder) → slice_get bs k ≡ Some b → past (p (bound f b)) n ≡ Ok m → first_of_all p (bounds f (drop k bs)) n ≡ first_of_all p (bounds f (drop (k + 1) bs)) m
  unfolding unless_found
  bound_goes_on m b h e = bound_step b h ∙ ap (λ w. unless_found w (first_of_all p (bounds f (drop (k + 1) bs)))) e

pub bound_ends : (p : Part → Bool) (f : Form) (bs : List Binder) (k n : ℕ) → k ≡ length bs → first_of_all p (bounds f (drop k bs)) n ≡ Ok n
unfolding first_of_all
bound_ends p f bs k n e = ap (λ us. first_of_all p (bounds f us) n) (nothing bs k e)

-- the innermost of those from index k on
module _ (x : List ℕ) (bs : List Binder) (k : ℕ) (o : Option Binder) where
  pub innermost_step : (b : Binder) → slice_get bs k ≡ Some b → innermost x (drop k bs) o ≡ innermost x (drop (k + 1) bs) (if bytes_eq (binder_name b) x then Some b else o)
  innermost_step b h = ap (λ us. innermost x us o) (drop_got bs k b h)

  pub innermost_end : k ≡ length bs → innermost x (drop k bs) o ≡ o
  innermost_end e = ap (λ us. innermost x us o) (nothing bs k e)

pub ruleset term_steps = (first_alone, symbol_found, symbol_goes_on, terms_found, terms_go_on, terms_end)

pub ruleset bound_steps = (bound_found, bound_goes_on, bound_ends)

pub ruleset inner_steps = (innermost_step, innermost_end)

pub ruleset form_steps = (first_alone, first_before, first_append, every_found, every_goes_on, exists_found, exists_goes_on)
