-- Words that are taken with nothing left behind are all of the bytes, and what all of the bytes spell is taken.
use Rattle.std.proofs.Common.{◌≡◌, ◌*◌, ◌+◌, ℕ, Bool, true, false, List, [], ◌∷◌, ◌++◌, append-nil, drop, Option, Some, None, refl, sym, ap, subst, ◌∙◌, ◌⊎◌, inl, inr, arith}
use Rattle.std.specs.Prelude.{◌↔◌, IsTrue, is_some, decimal, if◌then◌else◌, Result, Ok, Err, IfOk}
use Rattle.std.specs.Option.{option_map}
use Rattle.std.specs.Char.{is_ascii_alphabetic}
use Rattle.sap_terms.specs.declared.var.Sort.{Sort}
use Rattle.sap_terms.specs.declared.var.Sort.TheVariants.{Msg, Fresh, Pub}
use Rattle.sap_terms.specs.declared.var.Var.{Var}
use Rattle.sap_terms.specs.Tree.{Tree, node_count}
use Rattle.sap_grammar.specs.TermText.{sign_of}
use Rattle.sap_runs.specs.Limits.{HasFewNodes}
use Rattle.sap_run_lines.specs.RunTerms.{IsNumber, IsRunName, IsRunContent, IsRunTerm}
use Rattle.sap_run_lines.specs.StepLines.{IsDecided}
use Rattle.sap_run_lines.specs.WholeWords.{IsReadAs, IsFreshName, IsPublicName, IsRunVariable, IsWholeTerm}
use Rattle.sap_run_lines.specs.code.Taking.{Taken, after, given, starts, name_at, number_at, content_at}
use Rattle.sap_run_lines.specs.code.TermTaking.{small_term}
use Rattle.sap_run_lines.specs.code.WholeTaking.{alone, whole, name_alone, fresh_alone, public_alone, sort_first, behind_sign, variable_alone, term_alone}
use Rattle.sap_run_lines.proofs.OnTaken.{Says, OnTaken, OnSome, after_on, given_on, if_on, some_on}
use Rattle.sap_run_lines.proofs.Names.{name_on, name_read, content_on, content_read, no_sign}
use Rattle.sap_run_lines.proofs.Digits.{number_on, number_read}
use Rattle.sap_run_lines.proofs.TermsTaken.{first_is, small_term_on}
use Rattle.sap_run_lines.proofs.TermsRead.{term_read, small_term_read}

whole_on : {A : Type 0} (P : Says A) (r : Taken A) → OnTaken P r → OnSome (λ x. P x []) (whole r)
whole_on P r h = after_on P (λ x. P x []) r alone h at where
  at : (x : _) (k : List ℕ) → P x k → OnSome (λ x. P x []) (alone x k)
  at x [] p = p
  at x (b ∷ k) p = tt

-- what is so of all that is read, and is read wherever it is so
both : {A B : Type 0} (Is : A → B → Type 0) (y : B) (o : Option A) → OnSome (λ x. Is x y) o → ((x : A) → Is x y → o ≡ Some x) → IsReadAs Is y o
both Is y None on back = λ x h. let e = back x h in absurd (cc)
both Is y (Some x) on back = on

-- names

name_is : (z : List ℕ) → OnSome (λ x. IsRunName x × (z ≡ x)) (name_alone z)
name_is z = at (name_alone z) (whole_on (λ x r. IsRunName x × (z ≡ x ++ r)) (name_at z) (name_on z)) where
  at : (o : Option (List ℕ)) → OnSome (λ x. IsRunName x × (z ≡ x ++ [])) o → OnSome (λ x. IsRunName x × (z ≡ x)) o
  at None h = tt
  at (Some x) h = (h.0, h.1 ∙ append-nil x)

name_back : (x : List ℕ) → IsRunName x → name_alone x ≡ Some x
unfolding after
name_back x n = let e : name_at x ≡ Some (x, []) = subst (λ (y : List ℕ). name_at y ≡ Some (x, [])) (append-nil x) (name_read x [] n tt) in rw e refl

pub some_mapped : {A B : Type 0} (f : A → B) (o : Option A) → is_some o ≡ is_some (option_map f o)
some_mapped f None = refl
some_mapped f (Some x) = refl

pub name_told : (z : List ℕ) → IsTrue (is_some (name_alone z)) ↔ IsRunName z
name_told z = (at (name_alone z) (name_is z), λ n. rw (name_back z n) refl) where
  at : (o : Option (List ℕ)) → OnSome (λ x. IsRunName x × (z ≡ x)) o → IsTrue (is_some o) → IsRunName z
  at None h some = absurd (cc)
  at (Some x) h some = subst IsRunName (sym h.1) h.0

-- fresh names

fresh_is : (z : List ℕ) → OnSome (λ n. IsFreshName n z) (fresh_alone z)
fresh_is z = if_on (λ n. IsFreshName n z) (starts 126 z) _ _ (λ e.
    at e (whole (number_at (drop 1 z))) (whole_on (λ n r. IsNumber n × (drop 1 z ≡ decimal n ++ r)) (number_at (drop 1 z)) (number_on (drop 1 z)))) (λ e. tt) where
      at : starts 126 z ≡ true → (o : Option ℕ) → OnSome (λ n. IsNumber n × (drop 1 z ≡ decimal n ++ [])) o → OnSome (λ n. IsFreshName n z) o
      at e None h = tt
      at e (Some n) h = (h.0, first_is 126 z e ∙ ap (λ y. 126 ∷ y) (h.1 ∙ append-nil (decimal n)))

fresh_back : (n : ℕ) (z : List ℕ) → IsFreshName n z → fresh_alone z ≡ Some n
unfolding after
fresh_back n z h =
    let e : number_at (decimal n) ≡ Some (n, []) = subst (λ (y : List ℕ). number_at y ≡ Some (n, [])) (append-nil (decimal n)) (number_read n [] h.0 tt) in
    ap fresh_alone h.1 ∙ rw e refl

pub fresh_told : (z : List ℕ) → IsReadAs IsFreshName z (fresh_alone z)
fresh_told z = both IsFreshName z (fresh_alone z) (fresh_is z) (λ n h. fresh_back n z h)

-- public names

public_is : (z : List ℕ) → OnSome (λ s. IsPublicName s z) (public_alone z)
public_is z = if_on (λ s. IsPublicName s z) (starts 39 z) _ _ (λ e.
    at e (whole (content_at (drop 1 z))) (whole_on (λ s r. IsRunContent s × (drop 1 z ≡ s ++ (39 ∷ r))) (content_at (drop 1 z)) (content_on (drop 1 z)))) (λ e. tt) where
      at : starts 39 z ≡ true → (o : Option (List ℕ)) → OnSome (λ s. IsRunContent s × (drop 1 z ≡ s ++ (39 ∷ []))) o → OnSome (λ s. IsPublicName s z) o
      at e None h = tt
      at e (Some s) h = (h.0, first_is 39 z e ∙ ap (λ y. 39 ∷ y) h.1)

public_back : (s z : List ℕ) → IsPublicName s z → public_alone z ≡ Some s
unfolding after
public_back s z h = ap public_alone h.1 ∙ rw (content_read s [] h.0) refl

pub public_told : (z : List ℕ) → IsReadAs IsPublicName z (public_alone z)
public_told z = both IsPublicName z (public_alone z) (public_is z) (λ s h. public_back s z h)

-- variables

sign_apart : (z : List ℕ) → z ≡ sign_of (sort_first z) ++ behind_sign z
sign_apart z = at (starts 126 z) (starts 36 z) refl refl where
  at : (a b : Bool) → starts 126 z ≡ a → starts 36 z ≡ b
      → z ≡ sign_of (if a then Fresh else if b then Pub else Msg) ++ (if a then drop 1 z else if b then drop 1 z else z)
  at true b e f = first_is 126 z e
  at false true e f = first_is 36 z f
  at false false e f = refl

variable_is : (z : List ℕ) → OnSome (λ v. IsRunVariable v z) (variable_alone z)
variable_is z = given_on (λ v. IsRunVariable v z) (name_alone (behind_sign z)) _ (λ x e.
    let h = some_on (λ x. IsRunName x × (behind_sign z ≡ x)) (name_alone (behind_sign z)) x e (name_is (behind_sign z)) in
    (h.0, sign_apart z ∙ ap (λ y. sign_of (sort_first z) ++ y) h.1))

-- no sign stands first in a name
name_signless : (c : ℕ) (x : List ℕ) → IsRunName x → is_ascii_alphabetic c ≡ false → starts c x ≡ false
name_signless c x n other = subst (λ (y : List ℕ). starts c y ≡ false) (append-nil x) (no_sign c x [] other n.is)

sorted_back : (s : Sort) (x : List ℕ) → IsRunName x → (sort_first (sign_of s ++ x) ≡ s) × (behind_sign (sign_of s ++ x) ≡ x)
sorted_back Fresh x n = (refl, refl)
sorted_back Pub x n = (refl, refl)
sorted_back Msg x n = (rw (name_signless 126 x n refl, name_signless 36 x n refl) refl, rw (name_signless 126 x n refl, name_signless 36 x n refl) refl)

variable_back : (v : Var) (z : List ℕ) → IsRunVariable v z → variable_alone z ≡ Some v
unfolding given
variable_back v z h =
    let s = sorted_back v.sort v.name h.0 in
    ap variable_alone h.1 ∙ rw (s.1, s.0, name_back v.name h.0) refl

pub variable_told : (z : List ℕ) → IsReadAs IsRunVariable z (variable_alone z)
variable_told z = both IsRunVariable z (variable_alone z) (variable_is z) (λ v h. variable_back v z h)

-- terms

pub term_is : (z : List ℕ) → OnSome (λ t. IsWholeTerm t z) (term_alone z)
term_is z = whole_on (λ t k. IsRunTerm t z k × HasFewNodes t) (small_term z) (small_term_on z)

pub term_back : (t : Tree) (z : List ℕ) → IsWholeTerm t z → term_alone z ≡ Some t
unfolding after
term_back t z h = rw (small_term_read h.0 h.1 (tt, refl)) refl

pub term_told : (z : List ℕ) → IsReadAs IsWholeTerm z (term_alone z)
term_told z = both IsWholeTerm z (term_alone z) (term_is z) (λ t h. term_back t z h)

-- ---- laws

pub one_term : (t u : Tree) (z : List ℕ) → IsRunTerm t z [] → IsRunTerm u z [] → t ≡ u
one_term t u z h k =
    let d = 2 * node_count t + 2 * node_count u in
    let same : ◌≡◌ {A = Option (Tree × List ℕ)} (Some (t, [])) (Some (u, [])) = sym (term_read h d (omega arith) (tt, refl)) ∙ term_read k d (omega arith) (tt, refl) in
    let pairs : ◌≡◌ {A = Tree × List ℕ} (t, []) (u, []) = cc in
    ap (λ (p : Tree × List ℕ). p.0) pairs

pub one_fresh : (n m : ℕ) (z : List ℕ) → IsFreshName n z → IsFreshName m z → n ≡ m
one_fresh n m z h k = let same : ◌≡◌ {A = Option ℕ} (Some n) (Some m) = sym (fresh_back n z h) ∙ fresh_back m z k in cc

pub one_public : (s u z : List ℕ) → IsPublicName s z → IsPublicName u z → s ≡ u
one_public s u z h k = let same : ◌≡◌ {A = Option (List ℕ)} (Some s) (Some u) = sym (public_back s z h) ∙ public_back u z k in cc

pub one_variable : (v w : Var) (z : List ℕ) → IsRunVariable v z → IsRunVariable w z → v ≡ w
one_variable v w z h k = let same : ◌≡◌ {A = Option Var} (Some v) (Some w) = sym (variable_back v z h) ∙ variable_back w z k in cc

decided : {A : Type 0} (Is : A → List ℕ → Type 0) (z : List ℕ) (o : Option A) → IsReadAs Is z o → IsDecided Is z
decided Is z None h = inr h
decided Is z (Some x) h = inl (x, h)

pub name_decided : (z : List ℕ) → IsRunName z ⊎ (IsRunName z → ⊥)
name_decided z = at (name_alone z) (name_is z) (name_back z) where
  at : (o : Option (List ℕ)) → OnSome (λ x. IsRunName x × (z ≡ x)) o → (IsRunName z → o ≡ Some z) → IsRunName z ⊎ (IsRunName z → ⊥)
  at None h back = inr (λ n. let e = back n in absurd (cc))
  at (Some x) h back = inl (subst IsRunName (sym h.1) h.0)

pub fresh_decided : (z : List ℕ) → IsDecided IsFreshName z
fresh_decided z = decided IsFreshName z (fresh_alone z) (fresh_told z)

pub public_decided : (z : List ℕ) → IsDecided IsPublicName z
public_decided z = decided IsPublicName z (public_alone z) (public_told z)

pub variable_decided : (z : List ℕ) → IsDecided IsRunVariable z
variable_decided z = decided IsRunVariable z (variable_alone z) (variable_told z)

pub term_decided : (z : List ℕ) → IsDecided IsWholeTerm z
term_decided z = decided IsWholeTerm z (term_alone z) (term_told z)

-- ---- what the calls answer

pub told : {A E : Type 0} (Is : A → List ℕ → Type 0) (z : List ℕ) (f : List ℕ → Option A) → IsReadAs Is z (f z) → (r : Result (Option A) E) → IfOk r (λ o. o ≡ f z) → IfOk r (IsReadAs Is z)
told Is z f is (Ok o) h = subst (IsReadAs Is z) (sym h) is
told Is z f is (Err e) h = tt
