-- A process without flaws whose variables have the sorts of their binders, and whose locks have labels, is sound.
use Rattle.std.proofs.lemmas.List.{append_assoc}
use Rattle.sap_translate.specs.Members.{Member}
use Rattle.std.proofs.Common.{◌≡◌, ℕ, zero, suc, List, [], ◌∷◌, ◌++◌, Option, Some, None, refl, sym, ap, ◌∙◌, Bool, true, false, not, ◌||◌, cond, map, subst, append-nil, filter}
use Rattle.std.specs.List.{list_any, starts_with}
use Rattle.std.specs.Prelude.{codes, nat_eq}
use Rattle.std.specs.Str.{bytes_eq}
use Rattle.sap_terms.specs.Choice.{instance}
use Rattle.sap_terms.specs.Modulo.{instance_fact, instance_facts}
use Rattle.sap_terms.specs.Reserved.{is_reserved}
use Rattle.sap_terms.specs.Signature.{Sig}
use Rattle.sap_terms.specs.Tree.{Tree, trees_of}
use Rattle.sap_terms.specs.Variables.{tree_vars, trees_vars, facts_vars, is_known, new_vars}
use Rattle.sap_terms.specs.declared.fact.Fact.{Fact}
use Rattle.sap_terms.specs.declared.var.Var.{Var}
use Rattle.sap_terms.proofs.PlainLaws.Tests.{and_left, and_right}
use Rattle.sap_process.specs.Action as action
use Rattle.sap_process.specs.Action.{Action}
use Rattle.sap_process.specs.Flaws.{IsWellFormed}
use Rattle.sap_process.specs.Heads.{terms_vars, facts_terms}
use Rattle.sap_process.specs.Proc as whole
use Rattle.sap_process.specs.Proc.{Proc, act}
use Rattle.sap_process.specs.Sites.{var_names, fresh_var, message_var, bound_by}
use Rattle.sap_process.specs.Sorted.{by_binder, with_sorts}
use Rattle.sap_terms.specs.TermTests.{is_over}
use Rattle.sap_translate.specs.relation.Names.{is_reserved_var, is_reserved_fact, has_items}
use Rattle.sap_translate.specs.Scoped.{Within, IsFree, FactsWithin, AreUnreserved}
use Rattle.sap_templates.specs.Places.{ScopedPlace, child, scoped_place_at, root}
use Rattle.sap_process.specs.Places.{place}
use Rattle.sap_place.specs.StateFacts.{tag}
use Rattle.sap_process.specs.Scopes.{lock_var, scope_behind}
use Rattle.sap_translate.specs.OpenLocks.{IsUnusedIn, UnlocksAreOpen, closed}
use Rattle.sap_translate.specs.relation.Labels.{label_names, LabelsApart, HasLabels, action_labelled, labelled, IsRelabelled}
use Rattle.sap_translate.specs.Sound.{SoundAt, SoundPlaces, IsSound}
use Rattle.sap_translate.proofs.Shared.Facts.{same_name_true}
use Rattle.sap_translate.proofs.Shared.Lookups.{member_left, member_right, member_cases, in_left, in_right, only_member}
use Rattle.sap_translate.proofs.Terms.Substitution.{known-append}
use Rattle.sap_translate.proofs.Parts.Holders.{closed_other}
use Rattle.sap_translate.proofs.Lists.FactLists.{map_joined}
use Rattle.sap_translate.proofs.Terms.Clean.{IsClean, AllClean, all_clean}
use Rattle.sap_translate.proofs.Premises.Sorting.{sorted, sorted_name, has_binder, sorted_among, sorted_left, AllKnown, within_sorted, all_within_sorted, facts_within_sorted, vars_sorted, vars_facts_sorted, new_mapped, sorted_new, new_known, over_sound, over_sorted, each_sorted, each_in_sorted, facts_sorted}

-- the variables of lists of terms, and of facts
vars-of-terms : (ts : List Tree) → terms_vars ts ≡ trees_vars (trees_of ts)
vars-of-terms [] = refl
vars-of-terms (t ∷ ts) = ap (λ vs. tree_vars t ++ vs) (vars-of-terms ts)

terms-append : (xs ys : List Tree) → terms_vars (xs ++ ys) ≡ terms_vars xs ++ terms_vars ys
terms-append [] ys = refl
terms-append (x ∷ xs) ys = ap (λ vs. tree_vars x ++ vs) (terms-append xs ys) ∙ sym (append_assoc (tree_vars x) (terms_vars xs) (terms_vars ys))

vars-of-facts : (fs : List Fact) → terms_vars (facts_terms fs) ≡ facts_vars fs
vars-of-facts [] = refl
vars-of-facts (f ∷ fs) = terms-append f.args (facts_terms fs) ∙ (λ i. vars-of-terms f.args i ++ vars-of-facts fs i)

-- what holds at the head of each part
abbrev pub AllSound : Sig → List Var → Proc → Type 0
AllSound g v whole.nil = SoundAt g v whole.nil
AllSound g v (whole.parallel p q) = SoundAt g v (whole.parallel p q) × AllSound g v p × AllSound g v q
AllSound g v (whole.replicated p) = SoundAt g v (whole.replicated p) × AllSound g v p
AllSound g v (act a p) = SoundAt g v (act a p) × AllSound g (scope_behind v a) p
AllSound g v (whole.test m n p q) = SoundAt g v (whole.test m n p q) × AllSound g v p × AllSound g v q
AllSound g v (whole.lookup m x p q) = SoundAt g v (whole.lookup m x p q) × AllSound g (v ++ message_var x ∷ []) p × AllSound g v q

-- holds at each place

here_sound : (g : Sig) (v : List Var) (p : Proc) → AllSound g v p → SoundAt g v p
here_sound g v whole.nil h = h
here_sound g v (whole.parallel p q) h = h.0
here_sound g v (whole.replicated p) h = h.0
here_sound g v (act a p) h = h.0
here_sound g v (whole.test m n p q) h = h.0
here_sound g v (whole.lookup m x p q) h = h.0

same_spot : (g : Sig) (path : List ℕ) (w : List Var) (q : Proc) (k : ScopedPlace) → Some (place path w q) ≡ Some k → AllSound g w q → AllSound g k.above k.body
same_spot g path w q k e h = let same : place path w q ≡ k = cc in subst (λ (z : ScopedPlace). AllSound g z.above z.body) same h

first_sound : (g : Sig) (path : List ℕ) (v : List Var) (p : Proc) (k : ScopedPlace) → AllSound g v p → child (place path v p) 1 ≡ Some k → AllSound g k.above k.body
first_sound g path v whole.nil k h e = cc
first_sound g path v (whole.parallel p q) k h e = same_spot g (path ++ 1 ∷ []) v p k e h.1
first_sound g path v (whole.replicated p) k h e = same_spot g (path ++ 1 ∷ []) v p k e h.1
first_sound g path v (act a p) k h e = same_spot g (path ++ 1 ∷ []) (scope_behind v a) p k e h.1
first_sound g path v (whole.test m n p q) k h e = same_spot g (path ++ 1 ∷ []) v p k e h.1
first_sound g path v (whole.lookup m x p q) k h e = same_spot g (path ++ 1 ∷ []) (v ++ message_var x ∷ []) p k e h.1

second_sound : (g : Sig) (path : List ℕ) (v : List Var) (p : Proc) (k : ScopedPlace) → AllSound g v p → child (place path v p) 2 ≡ Some k → AllSound g k.above k.body
second_sound g path v whole.nil k h e = cc
second_sound g path v (whole.parallel p q) k h e = same_spot g (path ++ 2 ∷ []) v q k e h.2
second_sound g path v (whole.replicated p) k h e = cc
second_sound g path v (act a p) k h e = cc
second_sound g path v (whole.test m n p q) k h e = same_spot g (path ++ 2 ∷ []) v q k e h.2
second_sound g path v (whole.lookup m x p q) k h e = same_spot g (path ++ 2 ∷ []) v q k e h.2

child_sound : (g : Sig) (s k : ScopedPlace) (d : ℕ) → AllSound g s.above s.body → child s d ≡ Some k → AllSound g k.above k.body
child_sound g s k zero h e = cc
child_sound g s k (suc zero) h e = first_sound g s.path s.above s.body k h e
child_sound g s k (suc (suc zero)) h e = second_sound g s.path s.above s.body k h e
child_sound g s k (suc (suc (suc d))) h e = cc

spot_sound : (g : Sig) (o : Option ScopedPlace) (path : List ℕ) (b : ScopedPlace) → ((s : ScopedPlace) → o ≡ Some s → AllSound g s.above s.body) → scoped_place_at o path ≡ Some b → AllSound g b.above b.body
spot_sound g None path b h e = cc
spot_sound g (Some s) [] b h e = h b e
spot_sound g (Some s) (d ∷ path) b h e = spot_sound g (child s d) path b (λ k k_is. child_sound g s k d (h s refl) k_is) e

pub places_sound : (g : Sig) (p : Proc) → AllSound g [] p → SoundPlaces g p
places_sound g p h path b e = here_sound g b.above b.body (spot_sound g (root p) path b (λ s s_is. same_spot g [] [] p s s_is h) e)

-- reserved names

abbrev reserved : List ℕ → Bool
reserved n = starts_with nat_eq n (codes "sapic_")

apart_names : (m n : List ℕ) → reserved m ≡ true → reserved n ≡ false → bytes_eq m n ≡ false
apart_names m n h k = go (bytes_eq m n) refl
  where
    go : (b : Bool) → bytes_eq m n ≡ b → b ≡ false
    go true e = absurd (let z : true ≡ false = sym h ∙ ap reserved (same_name_true m n e) ∙ k in cc)
    go false e = refl

label_reserved : (i : ℕ) → reserved (lock_var i).name ≡ true
label_reserved i = refl

no_label : (ls : List ℕ) (n : List ℕ) → reserved n ≡ false → is_known (label_names ls) n ≡ false
no_label [] n h = refl
no_label (i ∷ ls) n h = ap (λ b. b || is_known (label_names ls) n) (apart_names (lock_var i).name n (label_reserved i) h) ∙ no_label ls n h

no_tag : (ls : List ℕ) → is_known (label_names ls) tag.name ≡ false
no_tag [] = refl
no_tag (i ∷ ls) = no_tag ls

-- no variable of the list has a reserved name
abbrev pub ArePlain : List Var → Type 0
ArePlain v = (x : Var) → Member x v → is_reserved_var x ≡ false

not_plain : (v : List Var) (n : List ℕ) → ArePlain v → reserved n ≡ true → is_known (var_names v) n ≡ false
not_plain v n plain h = go (is_known (var_names v) n) refl
  where
    go : (b : Bool) → is_known (var_names v) n ≡ b → b ≡ false
    go true e = absurd (let b = has_binder v n e in let z : false ≡ true = sym (plain b.binder b.among) ∙ ap reserved b.named ∙ h in cc)
    go false e = refl

-- a scope with the variables of locks among it
record Matches (v w : List Var) (ls : List ℕ) : Type 0 where
  old : (x : Var) → Member x v → Member x w
  labels : (i : ℕ) → Member i ls → Member (lock_var i) w
  known : (n : List ℕ) → is_known (var_names w) n ≡ (is_known (var_names v) n || is_known (label_names ls) n)
  plain : ArePlain v

or_none : (a b : Bool) → b ≡ false → (a || b) ≡ a
or_none true b e = refl
or_none false b e = e

or_free : (a b : Bool) → a ≡ false → b ≡ false → (a || b) ≡ false
or_free true b e f = e
or_free false b e f = f

-- a plain name is known as before
plain_known : {v w : List Var} {ls : List ℕ} → Matches v w ls → (n : List ℕ) → reserved n ≡ false → is_known (var_names w) n ≡ is_known (var_names v) n
plain_known {v} {w} {ls} m n h = m.known n ∙ or_none (is_known (var_names v) n) (is_known (label_names ls) n) (no_label ls n h)

still_free : {v w : List Var} {ls : List ℕ} → Matches v w ls → (x : Var) → is_reserved_var x ≡ false → is_known (var_names v) x.name ≡ false → IsFree x w
still_free m x h e = plain_known m x.name h ∙ e

label_free : {v w : List Var} {ls : List ℕ} → Matches v w ls → (x : Var) → reserved x.name ≡ true → is_known (label_names ls) x.name ≡ false → IsFree x w
label_free {v} {w} {ls} m x h e = m.known x.name ∙ or_free (is_known (var_names v) x.name) (is_known (label_names ls) x.name) (not_plain v x.name m.plain h) e

rotate : (a b c : Bool) → ((a || b) || c) ≡ ((a || c) || b)
rotate true b c = refl
rotate false true true = refl
rotate false true false = refl
rotate false false c = at c
  where
    at : (c : Bool) → c ≡ (c || false)
    at true = refl
    at false = refl

plain_more : (v ns : List Var) → ArePlain v → ArePlain ns → ArePlain (v ++ ns)
plain_more v ns h k x m = elim (member_cases v ns m) [ in_left a ↦ h x a | in_right b ↦ k x b ]

-- more is bound
matches_more : {v w : List Var} {ls : List ℕ} (ns : List Var) → ArePlain ns → Matches v w ls → Matches (v ++ ns) (w ++ ns) ls
matches_more {v} {w} {ls} ns plain m = record {
  old = λ x h. elim (member_cases v ns h) [ in_left a ↦ member_left ns (m.old x a) | in_right b ↦ member_right w b ];
  labels = λ i h. member_left ns (m.labels i h);
  known = λ n. let x : Var = record { name = n; sort = tag.sort } in
      known-append w ns x ∙ ap (λ b. b || is_known (var_names ns) n) (m.known n) ∙ rotate (is_known (var_names v) n) (is_known (label_names ls) n) (is_known (var_names ns) n)
      ∙ ap (λ b. b || is_known (label_names ls) n) (sym (known-append v ns x));
  plain = plain_more v ns m.plain plain;
}

matches_same : {v w : List Var} {ls : List ℕ} → Matches v w ls → Matches (v ++ []) w ls
matches_same {v} {w} {ls} m = subst (λ u. Matches u w ls) (sym (append-nil v)) m

label_first : {i : ℕ} {ls : List ℕ} (j : ℕ) (w : List Var) → Member j (i ∷ ls) → ((j : ℕ) → Member j ls → Member (lock_var j) w) → Member (lock_var j) (w ++ lock_var i ∷ [])
label_first {i} {ls} j w Member.here rest = member_right w Member.here
label_first {i} {ls} j w (Member.later m) rest = member_left (lock_var i ∷ []) (rest j m)

moved : (a b c : Bool) → ((a || b) || (c || false)) ≡ (a || (c || b))
moved true b c = refl
moved false true true = refl
moved false true false = refl
moved false false true = refl
moved false false false = refl

matches_label : {v w : List Var} {ls : List ℕ} (i : ℕ) → Matches v w ls → Matches v (w ++ lock_var i ∷ []) (i ∷ ls)
matches_label {v} {w} {ls} i m = record {
  old = λ x h. member_left (lock_var i ∷ []) (m.old x h);
  labels = λ j h. label_first j w h m.labels;
  known = λ n. let x : Var = record { name = n; sort = tag.sort } in
      known-append w (lock_var i ∷ []) x ∙ ap (λ b. b || (bytes_eq (lock_var i).name n || false)) (m.known n) ∙ moved (is_known (var_names v) n) (is_known (label_names ls) n) (bytes_eq (lock_var i).name n);
  plain = m.plain;
}

-- tests of lists

pub none_in : {A : Type 0} (f : A → Bool) (xs : List A) (x : A) → list_any f xs ≡ false → Member x xs → f x ≡ false
none_in f [] x h m = elim m [ ]
none_in f (y ∷ xs) x h m = first f y xs x h m (λ e k. none_in f xs x e k)
  where
    left : (a b : Bool) → (a || b) ≡ false → (a ≡ false) × (b ≡ false)
    left true b h = cc
    left false b h = (refl, h)

    first : {A : Type 0} (f : A → Bool) (y : A) (xs : List A) (x : A) → (f y || list_any f xs) ≡ false → Member x (y ∷ xs) → (list_any f xs ≡ false → Member x xs → f x ≡ false) → f x ≡ false
    first f y xs x h Member.here rest = (left (f x) (list_any f xs) h).0
    first f y xs x h (Member.later k) rest = rest (left (f y) (list_any f xs) h).1 k

filtered_none : {A : Type 0} (f : A → Bool) (xs : List A) (x : A) → has_items (filter f xs) ≡ false → Member x xs → f x ≡ false
filtered_none f [] x h m = elim m [ ]
filtered_none f (y ∷ xs) x h m = first f y xs x h m (λ e k. filtered_none f xs x e k)
  where
    none : (b : Bool) {A : Type 0} (y : A) (ys : List A) → has_items (cond b (y ∷ ys) ys) ≡ false → (b ≡ false) × (has_items ys ≡ false)
    none true y ys h = cc
    none false y ys h = (refl, h)

    first : {A : Type 0} (f : A → Bool) (y : A) (xs : List A) (x : A) → has_items (cond (f y) (y ∷ filter f xs) (filter f xs)) ≡ false → Member x (y ∷ xs) → (has_items (filter f xs) ≡ false → Member x xs → f x ≡ false) → f x ≡ false
    first f y xs x h Member.here rest = (none (f x) x (filter f xs) h).0
    first f y xs x h (Member.later k) rest = rest (none (f y) y (filter f xs) h).1 k

was_true : (b : Bool) → not b ≡ false → b ≡ true
was_true true h = refl
was_true false h = sym h

-- the variables of terms that are used are known
used_known : (v vs : List Var) → has_items (filter (λ (x : Var). not (is_known (var_names v) x.name)) vs) ≡ false → AllKnown v vs
used_known v vs h x m = was_true (is_known (var_names v) x.name) (filtered_none (λ (x : Var). not (is_known (var_names v) x.name)) vs x h m)

-- the names of an instance's new variables

names_agree : {v w : List Var} {ls : List ℕ} → Matches v w ls → (ws : List Var) → ArePlain ws → (n : List ℕ) → is_known (var_names ws) n ≡ true → is_known (var_names w) n ≡ is_known (var_names v) n
names_agree m ws plain n k = let b = has_binder ws n k in plain_known m n (ap reserved (sym b.named) ∙ plain b.binder b.among)

new_same : {v w : List Var} {ls : List ℕ} → Matches v w ls → (ws : List Var) → ArePlain ws → new_vars (var_names w) (map (sorted (v ++ new_vars (var_names v) ws)) ws) ≡ new_vars (var_names v) ws
new_same {v} {w} m ws plain = new_mapped (sorted (v ++ new_vars (var_names v) ws)) (sorted_name (v ++ new_vars (var_names v) ws)) (var_names v) (var_names w) ws (names_agree m ws plain) ∙ sorted_new v ws

first_among : (y : Var) (ns ws : List Var) (x : Var) → Member x (y ∷ ns) → (Member x ns → Member x ws) → Member x (y ∷ ws)
first_among y ns ws x Member.here rest = Member.here
first_among y ns ws x (Member.later k) rest = Member.later (rest k)

new_among : (known : List (List ℕ)) (ws : List Var) (x : Var) → Member x (new_vars known ws) → Member x ws
new_among known [] x m = elim m [ ]
new_among known (y ∷ ws) x m = go (is_known known y.name) m (λ k. new_among known ws x k) (λ k. new_among (known ++ y.name ∷ []) ws x k)
  where
    go : (b : Bool) → Member x (cond b (new_vars known ws) (y ∷ new_vars (known ++ y.name ∷ []) ws)) → (Member x (new_vars known ws) → Member x ws) → (Member x (new_vars (known ++ y.name ∷ []) ws) → Member x ws) → Member x (y ∷ ws)
    go true k one two = Member.later (one k)
    go false k one two = first_among y (new_vars (known ++ y.name ∷ []) ws) ws x k two

new_plain : (v ws : List Var) → ArePlain ws → ArePlain (new_vars (var_names v) ws)
new_plain v ws plain x m = plain x (new_among (var_names v) ws x m)

-- a label's variable is used nowhere
abbrev Differs : ℕ → Var → Type 0
Differs i y = bytes_eq (lock_var i).name y.name ≡ false

differs : (i : ℕ) (w : List Var) (x : Var) → is_reserved_var x ≡ false → Differs i (sorted w x)
differs i w x h = ap (bytes_eq (lock_var i).name) (sorted_name w x) ∙ apart_names (lock_var i).name x.name (label_reserved i) h

all_differ : (i : ℕ) (w vs : List Var) → ArePlain vs → (x : Var) → Member x vs → Differs i (sorted w x)
all_differ i w vs plain x m = differs i w x (plain x m)

-- the variables of a head

one_plain : (t : Tree) (rest : List Var) → ArePlain (tree_vars t ++ rest) → ArePlain (tree_vars t)
one_plain t rest h x m = h x (member_left rest m)

two_plain : (t u : Tree) → ArePlain (tree_vars t ++ (tree_vars u ++ [])) → ArePlain (tree_vars u)
two_plain t u h x m = h x (member_right (tree_vars t) (member_left [] m))

list_plain : (ts : List Tree) → ArePlain (terms_vars ts) → ArePlain (trees_vars (trees_of ts))
list_plain ts h = subst ArePlain (vars-of-terms ts) h

facts_plain : (fs : List Fact) → ArePlain (terms_vars (facts_terms fs)) → ArePlain (facts_vars fs)
facts_plain fs h = subst ArePlain (vars-of-facts fs) h

-- of the three sides of a rule
side_left : (l r : List Fact) → ArePlain (facts_vars (l ++ r)) → ArePlain (facts_vars l)
side_left [] r h x m = elim m [ ]
side_left (f ∷ l) r h x m = elim (member_cases (trees_vars (trees_of f.args)) (facts_vars l) m) [
  | in_left a ↦ h x (member_left (facts_vars (l ++ r)) a)
  | in_right b ↦ side_left l r (λ y k. h y (member_right (trees_vars (trees_of f.args)) k)) x b
]

side_right : (l r : List Fact) → ArePlain (facts_vars (l ++ r)) → ArePlain (facts_vars r)
side_right [] r h = h
side_right (f ∷ l) r h = side_right l r (λ y k. h y (member_right (trees_vars (trees_of f.args)) k))

plain_head : (xs : List Var) → list_any is_reserved_var xs ≡ false → ArePlain xs
plain_head xs h x m = none_in is_reserved_var xs x h m

unused_all : (g : Sig) (i : ℕ) (v : List Var) (p : Proc) → AllClean g v p → IsUnusedIn (lock_var i) (with_sorts v p)
unused_all g i v whole.nil h = tt
unused_all g i v (whole.parallel p q) h = (unused_all g i v p h.1, unused_all g i v q h.2)
unused_all g i v (whole.replicated p) h = unused_all g i v p h.1
unused_all g i v (whole.test t u p q) h =
    let names = plain_head (tree_vars t ++ (tree_vars u ++ [])) h.0.names in
    (each_sorted (Differs i) v t (all_differ i v (tree_vars t) (one_plain t (tree_vars u ++ []) names)), each_sorted (Differs i) v u (all_differ i v (tree_vars u) (two_plain t u names)), unused_all g i v p h.1, unused_all g i v q h.2)
unused_all g i v (whole.lookup t x p q) h =
    let names = plain_head (x ∷ (tree_vars t ++ [])) h.0.names in
    (each_sorted (Differs i) v t (all_differ i v (tree_vars t) (one_plain t [] (λ y m. names y (Member.later m)))), unused_all g i (v ++ message_var x ∷ []) p h.1, unused_all g i v q h.2)
unused_all g i v (act (action.new x) p) h = (tt, unused_all g i (v ++ fresh_var x ∷ []) p h.1)
unused_all g i v (act (action.out t) p) h =
    let names = plain_head (tree_vars t ++ []) h.0.names in
    (each_sorted (Differs i) (v ++ []) t (all_differ i (v ++ []) (tree_vars t) (one_plain t [] names)), unused_all g i (v ++ []) p h.1)
unused_all g i v (act (action.send t u) p) h =
    let names = plain_head (tree_vars t ++ (tree_vars u ++ [])) h.0.names in
    ((each_sorted (Differs i) (v ++ []) t (all_differ i (v ++ []) (tree_vars t) (one_plain t (tree_vars u ++ []) names)), each_sorted (Differs i) (v ++ []) u (all_differ i (v ++ []) (tree_vars u) (two_plain t u names))), unused_all g i (v ++ []) p h.1)
unused_all g i v (act (action.input t) p) h =
    let names = plain_head (tree_vars t ++ []) h.0.names in
    let w = v ++ new_vars (var_names v) (tree_vars t) in
    (each_sorted (Differs i) w t (all_differ i w (tree_vars t) (one_plain t [] names)), unused_all g i w p h.1)
unused_all g i v (act (action.receive t u) p) h =
    let names = plain_head (tree_vars t ++ (tree_vars u ++ [])) h.0.names in
    let w = v ++ new_vars (var_names v) (tree_vars u) in
    ((each_sorted (Differs i) w t (all_differ i w (tree_vars t) (one_plain t (tree_vars u ++ []) names)), each_sorted (Differs i) w u (all_differ i w (tree_vars u) (two_plain t u names))), unused_all g i w p h.1)
unused_all g i v (act (action.event f) p) h =
    let names = list_plain f.args (plain_head (terms_vars f.args) h.0.names) in
    (each_in_sorted (Differs i) (v ++ []) f.args (all_differ i (v ++ []) (trees_vars (trees_of f.args)) names), unused_all g i (v ++ []) p h.1)
unused_all g i v (act (action.insert t u) p) h =
    let names = plain_head (tree_vars t ++ (tree_vars u ++ [])) h.0.names in
    ((each_sorted (Differs i) (v ++ []) t (all_differ i (v ++ []) (tree_vars t) (one_plain t (tree_vars u ++ []) names)), each_sorted (Differs i) (v ++ []) u (all_differ i (v ++ []) (tree_vars u) (two_plain t u names))), unused_all g i (v ++ []) p h.1)
unused_all g i v (act (action.delete t) p) h =
    let names = plain_head (tree_vars t ++ []) h.0.names in
    (each_sorted (Differs i) (v ++ []) t (all_differ i (v ++ []) (tree_vars t) (one_plain t [] names)), unused_all g i (v ++ []) p h.1)
unused_all g i v (act (action.lock t n) p) h =
    let names = plain_head (tree_vars t ++ []) h.0.names in
    (each_sorted (Differs i) (v ++ []) t (all_differ i (v ++ []) (tree_vars t) (one_plain t [] names)), unused_all g i (v ++ []) p h.1)
unused_all g i v (act (action.unlock t n) p) h =
    let names = plain_head (tree_vars t ++ []) h.0.names in
    (each_sorted (Differs i) (v ++ []) t (all_differ i (v ++ []) (tree_vars t) (one_plain t [] names)), unused_all g i (v ++ []) p h.1)
unused_all g i v (act (action.embedded l e r) p) h =
    let names = facts_plain (l ++ (e ++ r)) (plain_head (terms_vars (facts_terms (l ++ (e ++ r)))) h.0.names) in
    let right = side_right l (e ++ r) names in
    let w = v ++ new_vars (var_names v) (facts_vars (l ++ (e ++ r))) in
    ((facts_sorted (Differs i) w l (all_differ i w (facts_vars l) (side_left l (e ++ r) names)), facts_sorted (Differs i) w e (all_differ i w (facts_vars e) (side_left e r right)), facts_sorted (Differs i) w r (all_differ i w (facts_vars r) (side_right e r right))), unused_all g i w p h.1)

-- facts whose names aren't reserved

pub users_of : (fs : List Fact) → list_any is_reserved_fact fs ≡ false → AreUnreserved fs
users_of fs h f m = none_in is_reserved_fact fs f h m

user_case : (h : Fact) (hs : List Fact) (f : Fact) → Member f (h ∷ hs) → is_reserved h.name ≡ false → (Member f hs → is_reserved f.name ≡ false) → is_reserved f.name ≡ false
user_case h hs f Member.here e rest = e
user_case h hs f (Member.later k) e rest = rest k

pub users_sorted : (w : List Var) (fs : List Fact) → AreUnreserved fs → AreUnreserved (instance_facts (by_binder w) fs)
users_sorted w [] u f m = elim m [ ]
users_sorted w (h ∷ fs) u f m = user_case (instance_fact (by_binder w) h) (instance_facts (by_binder w) fs) f m (u h Member.here) (λ k. users_sorted w fs (λ x n. u x (Member.later n)) f k)

-- labels

abbrev AreLabels : List (ℕ × Tree) → List ℕ → Type 0
AreLabels o ls = (l : ℕ) (m : Tree) → Member (l, m) o → Member l ls

label_case : (o : List (ℕ × Tree)) (ls : List ℕ) (i : ℕ) (t : Tree) (l : ℕ) (m : Tree) → Member (l, m) ((i, t) ∷ o) → (Member (l, m) o → Member l ls) → Member l (i ∷ ls)
label_case o ls i t l m Member.here rest = Member.here
label_case o ls i t l m (Member.later k) rest = Member.later (rest k)

labels_lock : (o : List (ℕ × Tree)) (ls : List ℕ) (i : ℕ) (t : Tree) → AreLabels o ls → AreLabels ((i, t) ∷ o) (i ∷ ls)
labels_lock o ls i t h l m k = label_case o ls i t l m k (h l m)

labels_unlock : (o : List (ℕ × Tree)) (ls : List ℕ) (i : ℕ) → AreLabels o ls → AreLabels (closed i o) ls
labels_unlock o ls i h l m k = h l m (closed_other i (l, m) o k).0

-- Where a process has no flaw with these variables in scope, and these locks above it have their labels, its sorted form
-- is sound with the variables of these locks in scope too.
all_sound : (g : Sig) (p : Proc) (v w : List Var) (o : List (ℕ × Tree)) (ls : List ℕ) → AllClean g v p → Matches v w ls → AreLabels o ls → UnlocksAreOpen o (with_sorts v p) → LabelsApart ls (with_sorts v p) → AllSound g w (with_sorts v p)
all_sound g whole.nil v w o ls h m labels locks apart = tt
all_sound g (whole.parallel p q) v w o ls h m labels locks apart = (tt, all_sound g p v w [] ls h.1 m (λ l t k. elim k [ ]) locks.0 apart.0, all_sound g q v w [] ls h.2 m (λ l t k. elim k [ ]) locks.1 apart.1)
all_sound g (whole.replicated p) v w o ls h m labels locks apart = (tt, all_sound g p v w [] ls h.1 m (λ l t k. elim k [ ]) locks apart)
all_sound g (whole.test t u p q) v w o ls h m labels locks apart =
    let known = used_known v (tree_vars t ++ (tree_vars u ++ [])) h.0.bound in (
      (
        within_sorted v w t (λ x k. sorted_among v w m.old x (known x (member_left (tree_vars u ++ []) k))),
        within_sorted v w u (λ x k. sorted_among v w m.old x (known x (member_right (tree_vars t) (member_left [] k)))),
      ),
      all_sound g p v w o ls h.1 m labels locks.0 apart.0,
      all_sound g q v w o ls h.2 m labels locks.1 apart.1,
    )
all_sound g (whole.lookup t x p q) v w o ls h m labels locks apart =
    let known = used_known v (tree_vars t ++ []) h.0.bound in
    let names = plain_head (x ∷ (tree_vars t ++ [])) h.0.names in (
      (within_sorted v w t (λ y k. sorted_among v w m.old y (known y (member_left [] k))), still_free m x (names x Member.here) h.0.once),
      all_sound g p (v ++ message_var x ∷ []) (w ++ message_var x ∷ []) o ls h.1 (matches_more (message_var x ∷ []) (λ y k. ap is_reserved_var (only_member k) ∙ names x Member.here) m) labels locks.0 apart.0,
      all_sound g q v w o ls h.2 m labels locks.1 apart.1,
    )
all_sound g (act (action.new x) p) v w o ls h m labels locks apart =
    let names = plain_head (x ∷ []) h.0.names in (
      still_free m x (names x Member.here) h.0.once,
      all_sound g p (v ++ fresh_var x ∷ []) (w ++ fresh_var x ∷ []) o ls h.1 (matches_more (fresh_var x ∷ []) (λ y k. ap is_reserved_var (only_member k) ∙ names x Member.here) m) labels locks apart,
    )
all_sound g (act (action.out t) p) v w o ls h m labels locks apart =
    let known = used_known v (tree_vars t ++ []) h.0.bound in
    (within_sorted (v ++ []) w t (λ x k. sorted_left v [] w m.old x (known x (member_left [] k))), all_sound g p (v ++ []) w o ls h.1 (matches_same m) labels locks apart)
all_sound g (act (action.send t u) p) v w o ls h m labels locks apart =
    let known = used_known v (tree_vars t ++ (tree_vars u ++ [])) h.0.bound in (
      (
        within_sorted (v ++ []) w t (λ x k. sorted_left v [] w m.old x (known x (member_left (tree_vars u ++ []) k))),
        within_sorted (v ++ []) w u (λ x k. sorted_left v [] w m.old x (known x (member_right (tree_vars t) (member_left [] k)))),
        label_free m tag refl (no_tag ls),
      ),
      all_sound g p (v ++ []) w o ls h.1 (matches_same m) labels locks apart,
    )
all_sound g (act (action.input t) p) v w o ls h m labels locks apart =
    let plain = one_plain t [] (plain_head (tree_vars t ++ []) h.0.names) in
    let ns = new_vars (var_names v) (tree_vars t) in
    let more = matches_more ns (new_plain v (tree_vars t) plain) m in
    let same : ns ≡ new_vars (var_names w) (tree_vars (instance (by_binder (v ++ ns)) t)) = sym (ap (new_vars (var_names w)) (vars_sorted (v ++ ns) t) ∙ new_same m (tree_vars t) plain) in (
      subst (λ vs. Within (w ++ vs) (instance (by_binder (v ++ ns)) t)) same (within_sorted (v ++ ns) (w ++ ns) t (λ x k. sorted_among (v ++ ns) (w ++ ns) more.old x (new_known v (tree_vars t) x k))),
      all_sound g p (v ++ ns) (w ++ new_vars (var_names w) (tree_vars (instance (by_binder (v ++ ns)) t))) o ls h.1 (subst (λ vs. Matches (v ++ ns) (w ++ vs) ls) same more) labels locks apart,
    )
all_sound g (act (action.receive t u) p) v w o ls h m labels locks apart =
    let known = used_known v (tree_vars t ++ []) h.0.bound in
    let plain = two_plain t u (plain_head (tree_vars t ++ (tree_vars u ++ [])) h.0.names) in
    let ns = new_vars (var_names v) (tree_vars u) in
    let more = matches_more ns (new_plain v (tree_vars u) plain) m in
    let same : ns ≡ new_vars (var_names w) (tree_vars (instance (by_binder (v ++ ns)) u)) = sym (ap (new_vars (var_names w)) (vars_sorted (v ++ ns) u) ∙ new_same m (tree_vars u) plain) in
    let later : Matches (v ++ ns) (w ++ new_vars (var_names w) (tree_vars (instance (by_binder (v ++ ns)) u))) ls = subst (λ vs. Matches (v ++ ns) (w ++ vs) ls) same more in (
      (
        within_sorted (v ++ ns) w t (λ x k. sorted_left v ns w m.old x (known x (member_left [] k))),
        label_free later tag refl (no_tag ls),
        within_sorted (v ++ ns) (w ++ new_vars (var_names w) (tree_vars (instance (by_binder (v ++ ns)) u))) u (λ x k. sorted_among (v ++ ns) (w ++ new_vars (var_names w) (tree_vars (instance (by_binder (v ++ ns)) u))) later.old x (new_known v (tree_vars u) x k)),
      ),
      all_sound g p (v ++ ns) (w ++ new_vars (var_names w) (tree_vars (instance (by_binder (v ++ ns)) u))) o ls h.1 later labels locks apart,
    )
all_sound g (act (action.event f) p) v w o ls h m labels locks apart =
    let known = used_known v (terms_vars f.args) h.0.bound in (
      (
        none_in is_reserved_fact (f ∷ []) f h.0.facts Member.here,
        all_within_sorted (v ++ []) w f.args (λ x k. sorted_left v [] w m.old x (known x (subst (Member x) (sym (vars-of-terms f.args)) k))),
      ),
      all_sound g p (v ++ []) w o ls h.1 (matches_same m) labels locks apart,
    )
all_sound g (act (action.insert t u) p) v w o ls h m labels locks apart =
    let known = used_known v (tree_vars t ++ (tree_vars u ++ [])) h.0.bound in (
      (
        within_sorted (v ++ []) w t (λ x k. sorted_left v [] w m.old x (known x (member_left (tree_vars u ++ []) k))),
        within_sorted (v ++ []) w u (λ x k. sorted_left v [] w m.old x (known x (member_right (tree_vars t) (member_left [] k)))),
        over_sorted g (v ++ []) u (over_sound g u (and_left _ _ (and_right (is_over g t) _ h.0.over))),
      ),
      all_sound g p (v ++ []) w o ls h.1 (matches_same m) labels locks apart,
    )
all_sound g (act (action.delete t) p) v w o ls h m labels locks apart =
    let known = used_known v (tree_vars t ++ []) h.0.bound in
    (within_sorted (v ++ []) w t (λ x k. sorted_left v [] w m.old x (known x (member_left [] k))), all_sound g p (v ++ []) w o ls h.1 (matches_same m) labels locks apart)
all_sound g (act (action.lock t i) p) v w o ls h m labels locks apart =
    let known = used_known v (tree_vars t ++ []) h.0.bound in
    let t' : Tree = instance (by_binder (v ++ [])) t in (
      (
        within_sorted (v ++ []) w t (λ x k. sorted_left v [] w m.old x (known x (member_left [] k))),
        label_free m (lock_var i) (label_reserved i) apart.0,
        unused_all g i (v ++ []) p h.1,
      ),
      all_sound g p (v ++ []) (w ++ lock_var i ∷ []) ((i, t') ∷ o) (i ∷ ls) h.1 (matches_same (matches_label i m)) (labels_lock o ls i t' labels) locks apart.1,
    )
all_sound g (act (action.unlock t i) p) v w o ls h m labels locks apart =
    let known = used_known v (tree_vars t ++ []) h.0.bound in
    let t' : Tree = instance (by_binder (v ++ [])) t in (
      (within_sorted (v ++ []) w t (λ x k. sorted_left v [] w m.old x (known x (member_left [] k))), m.labels i (labels i t' locks.0)),
      all_sound g p (v ++ []) w (closed i o) ls h.1 (matches_same m) (labels_unlock o ls i labels) locks.1 apart,
    )
all_sound g (act (action.embedded l e r) p) v w o ls h m labels locks apart =
    let fs : List Fact = l ++ (e ++ r) in
    let plain = facts_plain fs (plain_head (terms_vars (facts_terms fs)) h.0.names) in
    let ns = new_vars (var_names v) (facts_vars fs) in
    let u = v ++ ns in
    let more = matches_more ns (new_plain v (facts_vars fs) plain) m in
    let joined : instance_facts (by_binder u) fs ≡ instance_facts (by_binder u) l ++ (instance_facts (by_binder u) e ++ instance_facts (by_binder u) r) = map_joined (instance_fact (by_binder u)) l (e ++ r) ∙ ap (λ z. instance_facts (by_binder u) l ++ z) (map_joined (instance_fact (by_binder u)) e r) in
    let same : ns ≡ new_vars (var_names w) (facts_vars (instance_facts (by_binder u) l ++ (instance_facts (by_binder u) e ++ instance_facts (by_binder u) r))) = sym (ap (λ z. new_vars (var_names w) (facts_vars z)) (sym joined) ∙ ap (new_vars (var_names w)) (vars_facts_sorted u fs) ∙ new_same m (facts_vars fs) plain) in
    let users = users_of ((l ++ r) ++ e) h.0.facts in
    let inside : FactsWithin (w ++ ns) (instance_facts (by_binder u) l ++ (instance_facts (by_binder u) e ++ instance_facts (by_binder u) r)) = subst (FactsWithin (w ++ ns)) joined (facts_within_sorted u (w ++ ns) fs (λ x k. sorted_among u (w ++ ns) more.old x (new_known v (facts_vars fs) x k))) in (
      (
        users_sorted u l (λ f k. users f (member_left e (member_left r k))),
        users_sorted u e (λ f k. users f (member_right (l ++ r) k)),
        users_sorted u r (λ f k. users f (member_left e (member_right l k))),
        subst (λ vs. FactsWithin (w ++ vs) (instance_facts (by_binder u) l ++ (instance_facts (by_binder u) e ++ instance_facts (by_binder u) r))) same inside,
      ),
      all_sound g p u (w ++ new_vars (var_names w) (facts_vars (instance_facts (by_binder u) l ++ (instance_facts (by_binder u) e ++ instance_facts (by_binder u) r)))) o ls h.1 (subst (λ vs. Matches u (w ++ vs) ls) same more) labels locks apart,
    )

-- labels

action_clean : (g : Sig) (v : List Var) (k : ℕ) (a : Action) (p q : Proc) → IsClean g v (act a p) → IsClean g v (act (action_labelled k a) q)
action_clean g v k (action.new x) p q h = record { over = h.over; names = h.names; facts = h.facts; bound = h.bound; once = h.once }
action_clean g v k (action.out t) p q h = record { over = h.over; names = h.names; facts = h.facts; bound = h.bound; once = h.once }
action_clean g v k (action.send t u) p q h = record { over = h.over; names = h.names; facts = h.facts; bound = h.bound; once = h.once }
action_clean g v k (action.input t) p q h = record { over = h.over; names = h.names; facts = h.facts; bound = h.bound; once = h.once }
action_clean g v k (action.receive t u) p q h = record { over = h.over; names = h.names; facts = h.facts; bound = h.bound; once = h.once }
action_clean g v k (action.event f) p q h = record { over = h.over; names = h.names; facts = h.facts; bound = h.bound; once = h.once }
action_clean g v k (action.insert t u) p q h = record { over = h.over; names = h.names; facts = h.facts; bound = h.bound; once = h.once }
action_clean g v k (action.delete t) p q h = record { over = h.over; names = h.names; facts = h.facts; bound = h.bound; once = h.once }
action_clean g v k (action.lock t i) p q h = record { over = h.over; names = h.names; facts = h.facts; bound = h.bound; once = h.once }
action_clean g v k (action.unlock t i) p q h = record { over = h.over; names = h.names; facts = h.facts; bound = h.bound; once = h.once }
action_clean g v k (action.embedded l e r) p q h = record { over = h.over; names = h.names; facts = h.facts; bound = h.bound; once = h.once }

bound_labelled : (v : List Var) (k : ℕ) (a : Action) → bound_by v (action_labelled k a) ≡ bound_by v a
bound_labelled v k (action.new x) = refl
bound_labelled v k (action.out t) = refl
bound_labelled v k (action.send t u) = refl
bound_labelled v k (action.input t) = refl
bound_labelled v k (action.receive t u) = refl
bound_labelled v k (action.event f) = refl
bound_labelled v k (action.insert t u) = refl
bound_labelled v k (action.delete t) = refl
bound_labelled v k (action.lock t i) = refl
bound_labelled v k (action.unlock t i) = refl
bound_labelled v k (action.embedded l e r) = refl

pub clean_labelled : (g : Sig) (label : List ℕ → ℕ) (path : List ℕ) (v : List Var) (p : Proc) → AllClean g v p → AllClean g v (labelled label path p)
clean_labelled g label path v whole.nil h = h
clean_labelled g label path v (whole.parallel p q) h = (record { over = h.0.over; names = h.0.names; facts = h.0.facts; bound = h.0.bound; once = h.0.once }, clean_labelled g label (path ++ 1 ∷ []) v p h.1, clean_labelled g label (path ++ 2 ∷ []) v q h.2)
clean_labelled g label path v (whole.replicated p) h = (record { over = h.0.over; names = h.0.names; facts = h.0.facts; bound = h.0.bound; once = h.0.once }, clean_labelled g label (path ++ 1 ∷ []) v p h.1)
clean_labelled g label path v (act a p) h = (
  action_clean g v (label path) a p (labelled label (path ++ 1 ∷ []) p) h.0,
  subst (λ vs. AllClean g (v ++ vs) (labelled label (path ++ 1 ∷ []) p)) (sym (bound_labelled v (label path) a)) (clean_labelled g label (path ++ 1 ∷ []) (v ++ bound_by v a) p h.1),
)
clean_labelled g label path v (whole.test t u p q) h = (record { over = h.0.over; names = h.0.names; facts = h.0.facts; bound = h.0.bound; once = h.0.once }, clean_labelled g label (path ++ 1 ∷ []) v p h.1, clean_labelled g label (path ++ 2 ∷ []) v q h.2)
clean_labelled g label path v (whole.lookup t x p q) h = (record { over = h.0.over; names = h.0.names; facts = h.0.facts; bound = h.0.bound; once = h.0.once }, clean_labelled g label (path ++ 1 ∷ []) (v ++ message_var x ∷ []) p h.1, clean_labelled g label (path ++ 2 ∷ []) v q h.2)

-- labels may be set before the sorts or after them
pub sorts_labelled : (label : List ℕ → ℕ) (path : List ℕ) (v : List Var) (p : Proc) → with_sorts v (labelled label path p) ≡ labelled label path (with_sorts v p)
sorts_labelled label path v whole.nil = refl
sorts_labelled label path v (whole.parallel p q) = λ i. whole.parallel (sorts_labelled label (path ++ 1 ∷ []) v p i) (sorts_labelled label (path ++ 2 ∷ []) v q i)
sorts_labelled label path v (whole.replicated p) = λ i. whole.replicated (sorts_labelled label (path ++ 1 ∷ []) v p i)
sorts_labelled label path v (whole.test t u p q) = λ i. whole.test (instance (by_binder v) t) (instance (by_binder v) u) (sorts_labelled label (path ++ 1 ∷ []) v p i) (sorts_labelled label (path ++ 2 ∷ []) v q i)
sorts_labelled label path v (whole.lookup t x p q) = λ i. whole.lookup (instance (by_binder v) t) (message_var x) (sorts_labelled label (path ++ 1 ∷ []) (v ++ message_var x ∷ []) p i) (sorts_labelled label (path ++ 2 ∷ []) v q i)
sorts_labelled label path v (act a p) = below a (sorts_labelled label (path ++ 1 ∷ []) (v ++ bound_by v a) p)
  where
    below : (a : Action) → with_sorts (v ++ bound_by v a) (labelled label (path ++ 1 ∷ []) p) ≡ labelled label (path ++ 1 ∷ []) (with_sorts (v ++ bound_by v a) p) → with_sorts v (labelled label path (act a p)) ≡ labelled label path (with_sorts v (act a p))
    below (action.new x) e = ap (act (action.new (fresh_var x))) e
    below (action.out t) e = ap (act (action.out (instance (by_binder (v ++ [])) t))) e
    below (action.send t u) e = ap (act (action.send (instance (by_binder (v ++ [])) t) (instance (by_binder (v ++ [])) u))) e
    below (action.input t) e = ap (act (action.input (instance (by_binder (v ++ new_vars (var_names v) (tree_vars t))) t))) e
    below (action.receive t u) e = ap (act (action.receive (instance (by_binder (v ++ new_vars (var_names v) (tree_vars u))) t) (instance (by_binder (v ++ new_vars (var_names v) (tree_vars u))) u))) e
    below (action.event f) e = ap (act (action.event (instance_fact (by_binder (v ++ [])) f))) e
    below (action.insert t u) e = ap (act (action.insert (instance (by_binder (v ++ [])) t) (instance (by_binder (v ++ [])) u))) e
    below (action.delete t) e = ap (act (action.delete (instance (by_binder (v ++ [])) t))) e
    below (action.lock t i) e = ap (act (action.lock (instance (by_binder (v ++ [])) t) (label path))) e
    below (action.unlock t i) e = ap (act (action.unlock (instance (by_binder (v ++ [])) t) (label path))) e
    below (action.embedded l a r) e =
        let w = v ++ new_vars (var_names v) (facts_vars (l ++ (a ++ r))) in
        ap (act (action.embedded (instance_facts (by_binder w) l) (instance_facts (by_binder w) a) (instance_facts (by_binder w) r))) e

clean_sound : (g : Sig) (p : Proc) → AllClean g [] p → HasLabels (with_sorts [] p) → IsSound g (with_sorts [] p)
clean_sound g p clean annotated = (
  places_sound g (with_sorts [] p) (all_sound g p [] [] [] [] clean (record { old = λ x k. k; labels = λ i k. elim k [ ]; known = λ n. refl; plain = λ x k. elim k [ ] }) (λ l t k. elim k [ ]) annotated.locks annotated.labels),
  annotated.locks,
)

-- a process that is well-formed, with its sorts and then its labels, is sound
pub well_formed_sound : (g : Sig) (p q : Proc) → IsWellFormed g p → IsRelabelled (with_sorts [] p) q → HasLabels q → IsSound g q
well_formed_sound g p q fine l annotated =
    let same : with_sorts [] (labelled l.label [] p) ≡ q = sorts_labelled l.label [] [] p ∙ sym l.is in
    subst (IsSound g) same (clean_sound g (labelled l.label [] p) (clean_labelled g l.label [] [] p (all_clean g p fine)) (subst HasLabels (sym same) annotated))
