-- Entries are derivations, and derivations can be entered.
use Rattle.std.proofs.Common.{◌≡◌, ℕ, zero, suc, List, [], ◌∷◌, ◌++◌, length, map, reverse, Some, slice_get, slice_index_or, refl, ap, sym, subst, ◌∙◌}
use Rattle.std.specs.Prelude.{All, Contains, filter}
use Rattle.std.proofs.lemmas.List.{map-append, length-map, reverse-append}
use Rattle.std.proofs.lemmas.List.Elements.{All-nil, All-cons, All-head, All-tail, All-push, All-append, All-contains, Contains-push, Contains-append_left, Contains-append_right, Contains-append_cases, Contains-get_or, filter_map-append, filter-append}
use Rattle.std.proofs.lemmas.Option.{slice_get_within, get_or_from_slice_get, slice_get-get_or}
use Rattle.std.specs.Prelude.{◌⊎◌}
use Rattle.std.proofs.Common.{inl, inr}
use Rattle.sap_terms.specs.Tree.{Tree}
use Rattle.sap_terms.specs.Signature.{Sig}
use Rattle.sap_terms.specs.Equations.{equations}
use Rattle.sap_terms.specs.Laws.{LeavesAreNormal}
use Rattle.sap_terms.specs.Equal.{same}
use Rattle.sap_terms.specs.Normal.{IsNormal}
use Rattle.sap_terms.specs.Message.{IsMessage}
use Rattle.sap_terms.specs.declared.var.Sort.TheVariants.{Msg}
use Rattle.sap_terms.specs.Deduce.{IsDerived, a_public, a_name, given, applied, IsDerivation, IsDeducible}
use Rattle.sap_deduce.specs.declared.origin.Origin.{Origin}
use Rattle.sap_deduce.specs.declared.origin.Origin.TheVariants.{Name, Public, Output, Apply}
use Rattle.sap_deduce.specs.Entries.{Entry, Entries, terms_of, name_of, is_output, names_given, outputs_given, Adds, AreEntered, none_yet, one_more}
use Rattle.sap_deduce.specs.Laws.{AreDeducible, CanBeEntered}

-- what comes in is normal
pub adds-normal : LeavesAreNormal → (g : Sig) (es : List Entry) (origin : Origin) (t : Tree) → Adds g es origin t → IsNormal (equations g) t
adds-normal leaves g es (Name n) t a = let P : Tree → Type 0 = λ u. IsNormal (equations g) u in subst P (sym a) (leaves.of_fresh_name (equations g) n)
adds-normal leaves g es Public t a = let P : Tree → Type 0 = λ u. IsNormal (equations g) u in subst P (sym a.1) (leaves.of_public_name (equations g) a.0)
adds-normal leaves g es Output t a = a.normal
adds-normal leaves g es (Apply f ks) t a = a.form.normal

pub terms_of-push : (es : List Entry) (e : Entry) → terms_of (es ++ e ∷ []) ≡ terms_of es ++ e.term ∷ []
terms_of-push es e = map-append (λ (x : Entry). x.term) es (e ∷ [])

-- each entry is normal
pub entered-normal : LeavesAreNormal → (g : Sig) (es : List Entry) → AreEntered g es → All (IsNormal (equations g)) (terms_of es)
entered-normal leaves g _ none_yet = All-nil (IsNormal (equations g))
entered-normal leaves g _ (one_more es t origin h a) =
    rw (terms_of-push es (record { term = t; origin = origin }))
    (All-push (IsNormal (equations g)) (terms_of es) t (entered-normal leaves g es h) (adds-normal leaves g es origin t a))

-- one more entry gives no less
names_kept : (es : List Entry) (e : Entry) (n : ℕ) → Contains (names_given es) n → Contains (names_given (es ++ e ∷ [])) n
names_kept es e n c =
    rw (filter_map-append (λ (x : Entry). name_of x.origin) es (e ∷ [])) (Contains-append_left (names_given es) (names_given (e ∷ [])) n c)

pub outputs_given-push : (es : List Entry) (e : Entry) → outputs_given (es ++ e ∷ []) ≡ outputs_given es ++ outputs_given (e ∷ [])
outputs_given-push es e =
    ap terms_of (filter-append (λ (x : Entry). is_output x.origin) es (e ∷ []))
    ∙ map-append (λ (x : Entry). x.term) (filter (λ (x : Entry). is_output x.origin) es) (filter (λ (x : Entry). is_output x.origin) (e ∷ []))

outputs_kept : (es : List Entry) (e : Entry) (t : Tree) → Contains (outputs_given es) t → Contains (outputs_given (es ++ e ∷ [])) t
outputs_kept es e t c = rw (outputs_given-push es e) (Contains-append_left (outputs_given es) (outputs_given (e ∷ [])) t c)

-- what a list has, its reverse has
pub Contains-reverse : {X : Type 0} (xs : List X) (x : X) → Contains xs x → Contains (reverse xs) x
Contains-reverse [] x c = c
Contains-reverse {X} (y ∷ ys) x c = rw (reverse-append (y ∷ []) ys) (at (Contains-reverse ys x) (Contains-append_cases (y ∷ []) ys x c)) where
  at : (Contains ys x → Contains (reverse ys) x) → Contains (y ∷ []) x ⊎ Contains ys x → Contains (reverse ys ++ y ∷ []) x
  at back (inl here) = Contains-append_right (reverse ys) (y ∷ []) x here
  at back (inr there) = Contains-append_left (reverse ys) (y ∷ []) x (back there)

contains_from_get : {X : Type 0} (xs : List X) (k : ℕ) (x : X) → slice_get xs k ≡ Some x → Contains xs x
contains_from_get xs k x h = (k, slice_get_within xs k x h, get_or_from_slice_get xs k x x h)

-- terms at numbers are terms of the entries
pub terms_at-contained : (xs : List Tree) (ks : List ℕ) (ts : List Tree) → map (slice_get xs) ks ≡ map Some ts → All (Contains xs) ts
terms_at-contained xs [] [] h = All-nil (Contains xs)
terms_at-contained xs [] (t ∷ ts) h = cc
terms_at-contained xs (k ∷ ks) [] h = cc
terms_at-contained xs (k ∷ ks) (t ∷ ts) h =
    let head : slice_get xs k ≡ Some t = cc in
    let tail : map (slice_get xs) ks ≡ map Some ts = cc in
    All-cons (Contains xs) t ts (contains_from_get xs k t head) (terms_at-contained xs ks ts tail)

-- and as many as there are numbers
pub terms_at-length : (xs : List Tree) (ks : List ℕ) (ts : List Tree) → map (slice_get xs) ks ≡ map Some ts → length ks ≡ length ts
terms_at-length xs ks ts h = sym (length-map ks (slice_get xs)) ∙ ap length h ∙ length-map ts Some

-- each of the four lines is one of the four kinds
derived : (g : Sig) (names : List ℕ) (frame : List Tree) (es : List Entry) (t : Tree) (origin : Origin) → Adds g es origin t
    → ((n : ℕ) → Contains (names_given (es ++ record { term = t; origin = origin } ∷ [])) n → Contains names n)
    → ((u : Tree) → Contains (outputs_given (es ++ record { term = t; origin = origin } ∷ [])) u → Contains frame u)
    → IsDerived g names frame (reverse (terms_of es)) t
derived g names frame es t (Name n) a has_name has_output =
    a_name n (has_name n (rw (filter_map-append (λ (x : Entry). name_of x.origin) es (record { term = t; origin = Name n } ∷ [])) (Contains-push (names_given es) n))) a
derived g names frame es t Public a has_name has_output = a_public a.0 a.1
derived g names frame es t Output a has_name has_output =
    given (has_output t (rw (outputs_given-push es (record { term = t; origin = Output })) (Contains-push (outputs_given es) t)))
derived g names frame es t (Apply f ks) a has_name has_output =
    applied f a.args a.public_symbol (a.arity ∙ ap Some (terms_at-length (terms_of es) ks a.args a.at_numbers))
    (λ k d h. Contains-reverse (terms_of es) (slice_index_or a.args k d) (terms_at-contained (terms_of es) ks a.args a.at_numbers k d h)) a.form

-- entries, the last one first, are a derivation from what was given, and from more
derivation : (g : Sig) (names : List ℕ) (frame : List Tree) (es : List Entry) → AreEntered g es
    → ((n : ℕ) → Contains (names_given es) n → Contains names n) → ((u : Tree) → Contains (outputs_given es) u → Contains frame u)
    → IsDerivation g names frame (reverse (terms_of es))
derivation g names frame _ none_yet has_name has_output = tt
derivation g names frame _ (one_more es t origin h a) has_name has_output =
    let e : Entry = record { term = t; origin = origin } in
    rw (terms_of-push es e) (rw (reverse-append (terms_of es) (t ∷ [])) (
      derived g names frame es t origin a has_name has_output,
      derivation g names frame es h (λ n c. has_name n (names_kept es e n c)) (λ u c. has_output u (outputs_kept es e u c)),
    ))

-- each term of a derivation of normal terms is deducible
step_deducible : (g : Sig) (names : List ℕ) (frame ts : List Tree) → IsDerivation g names frame ts → (k : ℕ) (t : Tree) → slice_get ts k ≡ Some t → IsNormal (equations g) t → IsDeducible g names frame t
step_deducible g names frame [] d k t h n = cc
step_deducible g names frame (u ∷ us) d zero t h n =
    let e : u ≡ t = cc in
    record {
      form = t;
      is_form = record { equal = same; normal = n };
      earlier = us;
      derivation = subst (λ v. IsDerivation g names frame (v ∷ us)) e d;
    }
step_deducible g names frame (u ∷ us) d (suc k) t h n = step_deducible g names frame us d.1 k t h n

get_from_contains : {X : Type 0} (xs : List X) (x : X) → Contains xs x → (k : ℕ) × (slice_get xs k ≡ Some x)
get_from_contains xs x c = (c.0, slice_get-get_or xs c.0 x c.1 ∙ ap Some c.2)

pub entered-deducible : LeavesAreNormal → (k : Entries) → AreEntered k.sig k.entries → AreDeducible k
entered-deducible leaves k h i d below =
    let ts : List Tree = terms_of k.entries in
    let t : Tree = slice_index_or ts i d in
    let found : (j : ℕ) × (slice_get (reverse ts) j ≡ Some t) = get_from_contains (reverse ts) t (Contains-reverse ts t (Contains-get_or ts i d below)) in
    step_deducible k.sig (names_given k.entries) (outputs_given k.entries) (reverse ts)
    (derivation k.sig (names_given k.entries) (outputs_given k.entries) k.entries h (λ n c. c) (λ u c. c)) found.0 t found.1
    (entered-normal leaves k.sig k.entries h i d below)

-- terms that entries have stand at numbers
numbers : (xs ts : List Tree) → All (Contains xs) ts → (ks : List ℕ) × (map (slice_get xs) ks ≡ map Some ts)
numbers xs [] h = ([], refl)
numbers xs (t ∷ ts) h =
    let found : (k : ℕ) × (slice_get xs k ≡ Some t) = get_from_contains xs t (All-head (Contains xs) t ts h) in
    let rest : (ks : List ℕ) × (map (slice_get xs) ks ≡ map Some ts) = numbers xs ts (All-tail (Contains xs) t ts h) in
    (found.0 ∷ rest.0, λ i. found.1 i ∷ rest.1 i)

-- one line more
entered_more : (g : Sig) (names : List ℕ) (frame ts : List Tree) (r : CanBeEntered g names frame ts) (t : Tree) (origin : Origin) → Adds g r.entries origin t
    → All (Contains names) (names_given (record { term = t; origin = origin } ∷ [])) → All (Contains frame) (outputs_given (record { term = t; origin = origin } ∷ []))
    → CanBeEntered g names frame (t ∷ ts)
entered_more g names frame ts r t origin a n o =
    let e : Entry = record { term = t; origin = origin } in
    record {
      entries = r.entries ++ e ∷ [];
      entered = one_more r.entries t origin r.entered a;
      terms = terms_of-push r.entries e ∙ ap (λ us. us ++ t ∷ []) r.terms ∙ sym (reverse-append (t ∷ []) ts);
      only_names =
          rw (filter_map-append (λ (x : Entry). name_of x.origin) r.entries (e ∷ [])) (All-append (Contains names) (names_given r.entries) (names_given (e ∷ [])) r.only_names n);
      only_outputs = rw (outputs_given-push r.entries e) (All-append (Contains frame) (outputs_given r.entries) (outputs_given (e ∷ [])) r.only_outputs o);
    }

-- one term more
derived-entered : (g : Sig) (names : List ℕ) (frame ts : List Tree) → All (IsMessage g Msg) frame → (t : Tree) → IsDerived g names frame ts t
    → CanBeEntered g names frame ts → CanBeEntered g names frame (t ∷ ts)
derived-entered g names frame ts sent t (a_public a e) r =
    entered_more g names frame ts r t Public (a, e) (All-nil (Contains names)) (All-nil (Contains frame))
derived-entered g names frame ts sent t (a_name n c e) r =
    entered_more g names frame ts r t (Name n) e (All-cons (Contains names) n [] c (All-nil (Contains names))) (All-nil (Contains frame))
derived-entered g names frame ts sent t (given c) r =
    entered_more g names frame ts r t Output (All-contains (IsMessage g Msg) frame t sent c) (All-nil (Contains names)) (All-cons (Contains frame) t [] c (All-nil (Contains frame)))
derived-entered g names frame ts sent t (applied f us p a c form) r =
    let had : All (Contains (terms_of r.entries)) us = λ k d h. rw r.terms (Contains-reverse ts (slice_index_or us k d) (c k d h)) in
    let found : (ks : List ℕ) × (map (slice_get (terms_of r.entries)) ks ≡ map Some us) = numbers (terms_of r.entries) us had in
    entered_more g names frame ts r t (Apply f found.0)
    (record {
      args = us;
      public_symbol = p;
      arity = a ∙ ap Some (sym (terms_at-length (terms_of r.entries) found.0 us found.1));
      at_numbers = found.1;
      form = form;
    }) (All-nil (Contains names)) (All-nil (Contains frame))

pub derivation-entered : (g : Sig) (names : List ℕ) (frame ts : List Tree) → All (IsMessage g Msg) frame → IsDerivation g names frame ts → CanBeEntered g names frame ts
derivation-entered g names frame [] sent d = record {
  entries = [];
  entered = none_yet;
  terms = refl;
  only_names = All-nil (Contains names);
  only_outputs = All-nil (Contains frame);
}
derivation-entered g names frame (t ∷ ts) sent d = derived-entered g names frame ts sent t d.0 (derivation-entered g names frame ts sent d.1)
