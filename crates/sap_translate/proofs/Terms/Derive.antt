-- Derivations: their entries, and what more names and a longer frame give.
use Rattle.sap_translate.proofs.Premises.LowerLaws.{Laws, one_normal_form, nf-fixed}
use Rattle.sap_translate.specs.Members.{Member}
use Rattle.sap_terms.specs.Deduce.{IsDerived, a_public, a_name, given, applied, IsDerivation, IsDeducible}
use Rattle.sap_terms.specs.Equal.{IsTheoryEqual}
use Rattle.sap_terms.specs.Normal.{IsNormal}
use Rattle.sap_terms.specs.Signature.{Sig}
use Rattle.sap_terms.specs.Equations.{equations}
use Rattle.sap_terms.specs.Tree.{Tree}
use Rattle.std.proofs.lemmas.List.{reverse-append}
use Rattle.sap_translate.proofs.Shared.Lookups.{member_left, member_last}
use Rattle.std.proofs.Common.{reverse, sym, ◌++◌, ◌≡◌, ℕ, zero, suc, ◌<◌, List, [], ◌∷◌, refl, ◌∙◌, subst, arith, length}
use Rattle.std.specs.Prelude.{Contains, All, slice_index_or}

pub contains : {A : Type 0} {x : A} {xs : List A} → Member x xs → Contains xs x
contains {x = x} Member.here = (0, omega arith, refl)
contains {x = x} (Member.later m) = let h = contains m in (suc h.0, omega arith, h.2)

pub member : {A : Type 0} (x : A) (xs : List A) → Contains xs x → Member x xs
member {A} x xs h = at xs h.0 h.1 h.2
  where
    at : (xs : List A) (k : ℕ) → k < length xs → slice_index_or xs k x ≡ x → Member x xs
    at [] k lt e = absurd (omega arith)
    at (y ∷ xs) zero lt e = subst (λ z. Member z (y ∷ xs)) (let s : y ≡ x = e in s) Member.here
    at (y ∷ xs) (suc k) lt e = Member.later (at xs k (omega arith) e)

-- what is below all of a list
pub all_contained : {A : Type 0} (xs ys ts : List A) → ((x : A) → Contains xs x → Contains ys x) → All (Contains xs) ts → All (Contains ys) ts
all_contained xs ys ts h all k d lt = h (slice_index_or ts k d) (all k d lt)

pub all_members : {A : Type 0} (xs ts : List A) → ((x : A) → Member x ts → Member x xs) → All (Contains xs) ts
all_members {A} xs ts h k d lt = contains (h (slice_index_or ts k d) (item ts k d lt))
  where
    item : (ts : List A) (k : ℕ) (d : A) → k < length ts → Member (slice_index_or ts k d) ts
    item [] k d lt = absurd (omega arith)
    item (t ∷ ts) zero d lt = Member.here
    item (t ∷ ts) (suc k) d lt = Member.later (item ts k d (omega arith))

pub each_of_members : {A : Type 0} {P : A → Type 0} (ts : List A) → ((x : A) → Member x ts → P x) → All P ts
each_of_members {A} ts h k d lt = h (slice_index_or ts k d) (item ts k d lt)
  where
    item : (ts : List A) (k : ℕ) (d : A) → k < length ts → Member (slice_index_or ts k d) ts
    item [] k d lt = absurd (omega arith)
    item (t ∷ ts) zero d lt = Member.here
    item (t ∷ ts) (suc k) d lt = Member.later (item ts k d (omega arith))

pub members_of : {A : Type 0} (xs ts : List A) → All (Contains xs) ts → (x : A) → Member x ts → Member x xs
members_of xs [] all x m = elim m [ ]
members_of xs (t ∷ ts) all x m = at m (member t xs (all 0 t (omega arith))) (λ k. members_of xs ts (λ j d lt. all (suc j) d (omega arith)) x k)
  where
    at : {y : _} → Member y (t ∷ ts) → Member t xs → (Member y ts → Member y xs) → Member y xs
    at Member.here h rest = h
    at (Member.later k) h rest = rest k

-- more names, a longer frame
pub derived_grows : (g : Sig) (names names' : List ℕ) (frame frame' earlier : List Tree) (t : Tree) → ((n : ℕ) → Member n names → Member n names') → ((x : Tree) → Member x frame → Member x frame') → IsDerived g names frame earlier t → IsDerived g names' frame' earlier t
derived_grows g names names' frame frame' earlier t h k (a_public n e) = a_public n e
derived_grows g names names' frame frame' earlier t h k (a_name j m e) = a_name j (contains (h j (member j names m))) e
derived_grows g names names' frame frame' earlier t h k (given m) = given (contains (k t (member t frame m)))
derived_grows g names names' frame frame' earlier t h k (applied f ts p a all n) = applied f ts p a all n

pub derivation_grows : (g : Sig) (names names' : List ℕ) (frame frame' ts : List Tree) → ((n : ℕ) → Member n names → Member n names') → ((x : Tree) → Member x frame → Member x frame') → IsDerivation g names frame ts → IsDerivation g names' frame' ts
derivation_grows g names names' frame frame' [] h k d = tt
derivation_grows g names names' frame frame' (t ∷ ts) h k d = (derived_grows g names names' frame frame' ts t h k d.0, derivation_grows g names names' frame frame' ts h k d.1)

-- a normal entry of a derivation is deducible
pub entry : (g : Sig) (names : List ℕ) (frame ts : List Tree) (x : Tree) → IsDerivation g names frame ts → Member x ts → IsNormal (equations g) x → IsDeducible g names frame x
entry g names frame [] x d m n = elim m [ ]
entry g names frame (t ∷ ts) x d m n = at t ts m d n (λ k. entry g names frame ts x d.1 k n)
  where
    at : {y : Tree} (t : Tree) (ts : List Tree) → Member y (t ∷ ts) → IsDerivation g names frame (t ∷ ts) → IsNormal (equations g) y → (Member y ts → IsDeducible g names frame y) → IsDeducible g names frame y
    at t ts Member.here d n rest = record { form = t; is_form = record { equal = IsTheoryEqual.same; normal = n }; earlier = ts; derivation = d }
    at t ts (Member.later k) d n rest = rest k

pub deducible_grows_to : (g : Sig) (names names' : List ℕ) (frame frame' : List Tree) (x : Tree) → ((n : ℕ) → Member n names → Member n names') → ((y : Tree) → Member y frame → Member y frame') → IsDeducible g names frame x → IsDeducible g names' frame' x
deducible_grows_to g names names' frame frame' x h k d = record { form = d.form; is_form = d.is_form; earlier = d.earlier; derivation = derivation_grows g names names' frame frame' (d.form ∷ d.earlier) h k d.derivation }

-- what a normal term's derivation ends in
pub ends_in : (laws : Laws) → (g : Sig) (names : List ℕ) (frame : List Tree) (x : Tree) (d : IsDeducible g names frame x) → IsNormal (equations g) x → d.form ≡ x
ends_in laws g names frame x d n = (one_normal_form laws) (equations g) x d.form d.is_form ∙ (nf-fixed laws) (equations g) x n

-- lists that grow at their end

pub reverse_push : {A : Type 0} (xs : List A) (x : A) → reverse (xs ++ x ∷ []) ≡ x ∷ reverse xs
reverse_push xs x = reverse-append xs (x ∷ [])

reversed_case : {A : Type 0} {x y : A} (xs : List A) → Member x (y ∷ xs) → (Member x xs → Member x (reverse xs)) → Member x (reverse xs ++ y ∷ [])
reversed_case {x = x} xs Member.here rest = member_last (reverse xs) x
reversed_case {y = y} xs (Member.later k) rest = member_left (y ∷ []) (rest k)

member_reverse : {A : Type 0} (x : A) (xs : List A) → Member x xs → Member x (reverse xs)
member_reverse x [] m = elim m [ ]
member_reverse x (y ∷ xs) m = subst (λ zs. Member x zs) (sym (reverse-append (y ∷ []) xs)) (reversed_case xs m (member_reverse x xs))

-- a derivation is read from the newest term on
pub derivation_push : (g : Sig) (names : List ℕ) (frame known : List Tree) (x : Tree) → IsDerived g names frame (reverse known) x → IsDerivation g names frame (reverse known) → IsDerivation g names frame (reverse (known ++ x ∷ []))
derivation_push g names frame known x h d = subst (λ ts. IsDerivation g names frame ts) (sym (reverse_push known x)) (h, d)

pub all_reversed : (known ts : List Tree) → All (Contains known) ts → All (Contains (reverse known)) ts
all_reversed known ts h = all_contained known (reverse known) ts (λ x c. contains (member_reverse x known (member x known c))) h

pub known_entry : (g : Sig) (names : List ℕ) (frame known : List Tree) (x : Tree) → IsDerivation g names frame (reverse known) → Member x known → IsNormal (equations g) x → IsDeducible g names frame x
known_entry g names frame known x d m n = entry g names frame (reverse known) x d (member_reverse x known m) n
