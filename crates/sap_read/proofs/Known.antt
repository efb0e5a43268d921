-- Which names of processes are known behind the first processes of a file.
use Rattle.std.proofs.Common.{◌≡◌, ℕ, ◌+◌, List, [], ◌∷◌, ◌++◌, Bool, true, false, not, ◌||◌, Option, Some, None, refl, sym, ap, ◌∙◌, map, drop}
use Rattle.std.specs.Prelude.{if◌then◌else◌, slice_get, is_some}
use Rattle.std.specs.List.{find, list_any}
use Rattle.std.specs.Option.{option_map}
use Rattle.std.specs.Str.{bytes_eq}
use Rattle.std.proofs.lemmas.List.{map-append}
use Rattle.std.proofs.lemmas.List.Folds.{list_any-append}
use Rattle.sap_terms.proofs.PlainLaws.Lists.{drop_got}
use Rattle.sap_macro.specs.Located.{Located, nil_at, call_at, parallel_at, replicated_at, act_at, test_at, lookup_at, without_numbers}
use Rattle.sap_macro.specs.Sources.{located, written}
use Rattle.sap_macro.specs.declared.source.Source.{Source}
use Rattle.sap_read.specs.declared.entry.Entry.{Entry}
use Rattle.sap_read.specs.declared.names.Undefined.{Undefined}
use Rattle.sap_read.specs.FileProcess.{calls}
use Rattle.sap_read.specs.Item.{Body}
use Rattle.sap_read.specs.LocatedItems.{LocatedBody, plain_body}
use Rattle.sap_read.specs.Causes.{first_of, listed, is_among, unknown_from}
use Rattle.sap_read.specs.UndefinedNames.{UsedName, calls_at, first_undefined, is_not_among}
use Rattle.sap_read.specs.Entries.{body, located_body}
use Rattle.sap_read.specs.code.Known.{AreBehind, is_not_kept, undefined_among, used_name}

-- the first undefined name of two lists
pub undefined_append : (names : List (List ℕ)) (xs ys : List UsedName) → undefined_among names (xs ++ ys) ≡ (if is_some (undefined_among names xs) then undefined_among names xs else undefined_among names ys)
undefined_append names [] ys = refl
undefined_append names (x ∷ xs) ys = by (is_not_kept names x) (undefined_append names xs ys) where
  by : (t : Bool) → undefined_among names (xs ++ ys) ≡ (if is_some (undefined_among names xs) then undefined_among names xs else undefined_among names ys)
      → (if t then Some x else undefined_among names (xs ++ ys)) ≡ (if is_some (if t then Some x else undefined_among names xs) then (if t then Some x else undefined_among names xs) else undefined_among names ys)
  by true e = refl
  by false e = e

pub ruleset undefined_laws = (undefined_append)

-- what is known tells which names aren't defined
undefined_same : (names ks : List (List ℕ)) (us : List UsedName) → ((x : List ℕ) → list_any (bytes_eq x) names ≡ is_among ks x) → undefined_among names us ≡ find (is_not_among ks) us
undefined_same names ks [] h = refl
undefined_same names ks (u ∷ us) h = rw (h u.name) (by (not (is_among ks u.name)) (undefined_same names ks us h)) where
  by : (t : Bool) → undefined_among names us ≡ find (is_not_among ks) us → (if t then Some u else undefined_among names us) ≡ (if t then Some u else find (is_not_among ks) us)
  by true e = refl
  by false e = e

first_found : {A : Type 0} → (o p : Option A) (x : A) → o ≡ Some x → first_of (o ∷ p ∷ []) ≡ Some x
first_found o p x e = rw e refl

second_found : {A : Type 0} → (o p : Option A) → o ≡ None → first_of (o ∷ p ∷ []) ≡ p
second_found o None e = rw e refl
second_found o (Some x) e = rw e refl

or_swaps : (s t : Bool) → (s || t) ≡ (t || s)
or_swaps true true = refl
or_swaps true false = refl
or_swaps false true = refl
or_swaps false false = refl

-- behind none of the processes
pub behind_none : (es : List Entry) (names : List (List ℕ)) → names ≡ [] → AreBehind es 0 names
behind_none es names empty = record { known = []; rest = refl; kept = λ x. rw empty refl }

-- the names of an entry, where they are used
names_of : Entry → List UsedName
names_of e = calls_at e.behind (located e.source.value)

-- behind one more
pub behind_more : (es : List Entry) (k : ℕ) (e : Entry) (old new : List (List ℕ)) → AreBehind es k old → slice_get es k ≡ Some e
    → undefined_among old (calls_at e.behind (located e.source.value)) ≡ None
    → ((x : List ℕ) → list_any (bytes_eq x) new ≡ (is_among (listed e.label) x || list_any (bytes_eq x) old)) → AreBehind es (k + 1) new
unfolding names_of
behind_more es k e old new h there known is =
    let rest : map located_body (drop k es) ≡ located_body e ∷ map located_body (drop (k + 1) es) = ap (map located_body) (drop_got es k e there) in
    let ks = h.known in
    let none : find (is_not_among ks) (names_of e) ≡ None = sym (undefined_same old ks (names_of e) h.kept) ∙ known in
    record {
      known = ks ++ listed e.label;
      rest = h.rest ∙ ap (first_undefined ks) rest ∙ second_found (find (is_not_among ks) (names_of e)) (first_undefined (ks ++ listed e.label) (map located_body (drop (k + 1) es))) none;
      kept = λ x. is x ∙ ap (λ t. is_among (listed e.label) x || t) (h.kept x) ∙ or_swaps (is_among (listed e.label) x) (is_among ks x) ∙ sym (list_any-append (λ y. bytes_eq y x) ks (listed e.label));
    }

-- the first that isn't defined is that of the file
pub behind_found : (es : List Entry) (k : ℕ) (e : Entry) (names : List (List ℕ)) → AreBehind es k names → slice_get es k ≡ Some e → (u : Undefined)
    → option_map used_name (Some u) ≡ undefined_among names (calls_at e.behind (located e.source.value)) → option_map used_name (Some u) ≡ first_undefined [] (map located_body es)
unfolding names_of
behind_found es k e names h there u is =
    let rest : map located_body (drop k es) ≡ located_body e ∷ map located_body (drop (k + 1) es) = ap (map located_body) (drop_got es k e there) in
    let ks = h.known in
    sym (h.rest ∙ ap (first_undefined ks) rest
    ∙ first_found (find (is_not_among ks) (names_of e)) (first_undefined (ks ++ listed e.label) (map located_body (drop (k + 1) es))) (used_name u) (sym (undefined_same names ks (names_of e) h.kept) ∙ sym is))

-- behind all of them
pub behind_all : (es : List Entry) (k : ℕ) (names : List (List ℕ)) → AreBehind es k names → drop k es ≡ [] → first_undefined [] (map located_body es) ≡ None
behind_all es k names h over = h.rest ∙ ap (λ (xs : List Entry). first_undefined h.known (map located_body xs)) over

-- ---- without words it is the first unknown name

abbrev name_of : UsedName → List ℕ
name_of u = u.name

names_joined : (xs ys : List UsedName) (ms ns : List (List ℕ)) → map name_of xs ≡ ms → map name_of ys ≡ ns → map name_of (xs ++ ys) ≡ ms ++ ns
names_joined xs ys ms ns e f = map-append name_of xs ys ∙ rw e (ap (λ (zs : List (List ℕ)). ms ++ zs) f)

calls_same : (n : ℕ) (p : Located) → map name_of (calls_at n p) ≡ calls (without_numbers p)
calls_same n (nil_at k) = refl
calls_same n (call_at k f ts) = refl
calls_same n (parallel_at k p q) = names_joined (calls_at n p) (calls_at n q) (calls (without_numbers p)) (calls (without_numbers q)) (calls_same n p) (calls_same n q)
calls_same n (replicated_at k p) = calls_same n p
calls_same n (act_at k a p) = calls_same n p
calls_same n (test_at k t u p q) = names_joined (calls_at n p) (calls_at n q) (calls (without_numbers p)) (calls (without_numbers q)) (calls_same n p) (calls_same n q)
calls_same n (lookup_at k t x p q) = names_joined (calls_at n p) (calls_at n q) (calls (without_numbers p)) (calls (without_numbers q)) (calls_same n p) (calls_same n q)

find_same : (ks : List (List ℕ)) (us : List UsedName) → option_map name_of (find (is_not_among ks) us) ≡ find (λ x. not (is_among ks x)) (map name_of us)
find_same ks [] = refl
find_same ks (u ∷ us) = by (not (is_among ks u.name)) (find_same ks us) where
  by : (t : Bool) → option_map name_of (find (is_not_among ks) us) ≡ find (λ x. not (is_among ks x)) (map name_of us)
      → option_map name_of (if t then Some u else find (is_not_among ks) us) ≡ (if t then Some u.name else find (λ x. not (is_among ks x)) (map name_of us))
  by true e = refl
  by false e = e

first_same : (o p : Option UsedName) → option_map name_of (first_of (o ∷ p ∷ [])) ≡ first_of (option_map name_of o ∷ option_map name_of p ∷ [])
first_same None None = refl
first_same None (Some y) = refl
first_same (Some x) p = refl

firsts : (o p q r : Option (List ℕ)) → o ≡ p → q ≡ r → first_of (o ∷ q ∷ []) ≡ first_of (p ∷ r ∷ [])
firsts o p q r e f = rw e (rw f refl)

pub unknown_same : (known : List (List ℕ)) (bs : List LocatedBody) → option_map name_of (first_undefined known bs) ≡ unknown_from known (map plain_body bs)
unknown_same known [] = refl
unknown_same known (b ∷ bs) =
    let us = calls_at b.behind b.content in
    first_same (find (is_not_among known) us) (first_undefined (known ++ listed b.label) bs)
    ∙ firsts (option_map name_of (find (is_not_among known) us)) (find (λ x. not (is_among known x)) (calls (without_numbers b.content))) (option_map name_of (first_undefined (known ++ listed b.label) bs)) (unknown_from (known ++ listed b.label) (map plain_body bs))
    (find_same known us ∙ ap (find (λ x. not (is_among known x))) (calls_same b.behind b.content)) (unknown_same (known ++ listed b.label) bs)

-- without the words of their places processes are what is written
bodies_same : ((s : Source) → without_numbers (located s) ≡ written s) → (es : List Entry) → map plain_body (map located_body es) ≡ map body es
bodies_same law [] = refl
bodies_same law (e ∷ es) = rw (law e.source.value) (ap (λ (bs : List Body). body e ∷ bs) (bodies_same law es))

pub unknown_is : ((s : Source) → without_numbers (located s) ≡ written s) → (es : List Entry) (o : Option UsedName) → o ≡ first_undefined [] (map located_body es) → option_map name_of o ≡ unknown_from [] (map body es)
unknown_is law es o e = ap (option_map name_of) e ∙ unknown_same [] (map located_body es) ∙ ap (unknown_from []) (bodies_same law es)

pub unknown_none : ((s : Source) → without_numbers (located s) ≡ written s) → (es : List Entry) → None ≡ first_undefined [] (map located_body es) → unknown_from [] (map body es) ≡ None
unknown_none law es e = sym (unknown_is law es None e)

pub unknown_some : ((s : Source) → without_numbers (located s) ≡ written s) → (es : List Entry) (u : Undefined) → Some (used_name u) ≡ first_undefined [] (map located_body es) → unknown_from [] (map body es) ≡ Some u.name.now
unknown_some law es u e = sym (unknown_is law es (Some (used_name u)) e) ∙ (refl)
