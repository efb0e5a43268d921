-- What is taken out of a value.
use Rattle.std.proofs.Common.{◌≡◌, ◌-◌, ◌+◌, get_or, drop, drop-cons, add-one, ℕ, suc, Bool, List, [], ◌∷◌, length, map, Option, Some, None, refl, sym, ap, subst, ◌∙◌, arith, String, Global, string_bytes}
use Rattle.std.specs.Prelude.{slice_get, codes, ◌&&◌, if◌then◌else◌, ◌^◌, ◌<◌, Result, Ok, Err, IfOk, option_map, option_and_then}
use Rattle.std.specs.Str.{bytes_eq}
use Rattle.serde_json.specs.Data.{Data, null, boolean, string, array, object, unsigned, negative, float, Items, Members}
use Rattle.serde_json.specs.Data as datum
use Rattle.serde_json.specs.Find.{as_array, as_str, as_u64, as_number}
use Rattle.serde_json.specs.View.{view, items_of, items_view, members_view}
use Rattle.serde_json.specs.declared.value.Value.{Value}
use Rattle.sap_terms.specs.declared.binding.Binding.{Binding}
use Rattle.sap_run_lines.specs.RunTerms.{IsRunName}
use Rattle.sap_run_lines.specs.WholeWords.{IsReadAs}
use Rattle.sap_json.specs.code.Reading.{list_of, list_in, both, pair_of, pair_in, members_in, IsNumberData, IsNameData, IsBindingData, IsBindingOf, IsListOf}
use Rattle.sap_json.specs.Arrays.{AreEach}
use Rattle.sap_json.proofs.Each.{list_back}
use Rattle.sap_json.proofs.OneOperands.{some_one}
use Rattle.sap_json.proofs.StepsRead.{array_of, string_of}

-- the items of an array, by what `serde_json` says
list_is : (d : Data) → list_in d ≡ option_map list_of (as_array d)
list_is null = refl
list_is (boolean b) = refl
list_is (datum.number n) = refl
list_is (string s) = refl
list_is (array is) = refl
list_is (object ms) = refl

pub list_none : (d : Data) → None ≡ as_array d → None ≡ list_in d
list_none d e = sym (list_is d ∙ ap (option_map list_of) (sym e))

pub list_some : (d : Data) (vs : List Value) → Some (items_view vs) ≡ as_array d → Some (map view vs) ≡ list_in d
list_some d vs e = sym (list_is d ∙ ap (option_map list_of) (sym e) ∙ ap Some (list_back (map view vs)))

-- a number
number_of : (d : Data) (n : ℕ) → option_and_then as_u64 (as_number d) ≡ Some n → d ≡ datum.number (unsigned n)
number_of null n e = absurd (cc)
number_of (boolean b) n e = absurd (cc)
number_of (datum.number (unsigned m)) n e = ap (λ k. datum.number (unsigned k)) (some_one m n e)
number_of (datum.number (negative z)) n e = absurd (cc)
number_of (datum.number (float x)) n e = absurd (cc)
number_of (string s) n e = absurd (cc)
number_of (array is) n e = absurd (cc)
number_of (object ms) n e = absurd (cc)

pub number_none : (d : Data) → None ≡ option_and_then as_u64 (as_number d) → (n : ℕ) → IsNumberData n d → ⊥
number_none d e n h = let is : option_and_then as_u64 (as_number d) ≡ Some n = ap (λ x. option_and_then as_u64 (as_number x)) h.1 in absurd (cc (e, is))

pub number_some : (d : Data) (n : ℕ) → n < 2 ^ 64 → Some n ≡ option_and_then as_u64 (as_number d) → IsNumberData n d
number_some d n fits e = (fits, number_of d n (sym e))

-- strings
pub no_text : (d : Data) (z : List ℕ) → None ≡ as_str d → d ≡ string z → ⊥
no_text d z e is = let f : as_str d ≡ Some z = ap as_str is in absurd (cc (e, f))

pub same_text : (d : Data) (z y : List ℕ) → Some z ≡ as_str d → d ≡ string y → z ≡ y
same_text d z y e is = some_one z y (e ∙ ap as_str is)

-- a string that is read so
module _ {A : Type 0} (Is : A → List ℕ → Type 0) where
  pub text_read : (d : Data) (z : List ℕ) (o : Option A) → Some z ≡ as_str d → IsReadAs Is z o → IsReadAs (λ x d. (y : List ℕ) × Is x y × (d ≡ string y)) d o
  text_read d z None e h = λ x k. h x (subst (Is x) (sym (same_text d z k.0 e k.2)) k.1)
  text_read d z (Some x) e h = (z, h, string_of d z (sym e))

  pub text_unread : (d : Data) → None ≡ as_str d → (x : A) → (y : List ℕ) × Is x y × (d ≡ string y) → ⊥
  text_unread d e x k = no_text d k.0 e k.2

-- names
pub name_of_text : (d : Data) (z : List ℕ) → Some z ≡ as_str d → IsRunName z → IsNameData z d
name_of_text d z e n = (n, string_of d z (sym e))

pub no_name_of_text : (d : Data) (z : List ℕ) → Some z ≡ as_str d → (IsRunName z → ⊥) → (x : List ℕ) → IsNameData x d → ⊥
no_name_of_text d z e none x h = none (subst IsRunName (sym (same_text d z x e h.1)) h.0)

-- bindings
pub pair_array : (d : Data) (x z : List ℕ) → Some (x, z) ≡ pair_in d → d ≡ array (items_of (string x ∷ string z ∷ []))
pair_array d x z e = at (list_in d) refl e where
  two : (a b : Data) → Some (x, z) ≡ both (as_str a) (as_str b) → (a ≡ string x) × (b ≡ string z)
  two a b f = go (as_str a) (as_str b) refl refl f where
    go : (o u : Option (List ℕ)) → as_str a ≡ o → as_str b ≡ u → Some (x, z) ≡ both o u → (a ≡ string x) × (b ≡ string z)
    go None u p q f = absurd (cc)
    go (Some s) None p q f = absurd (cc)
    go (Some s) (Some t) p q f =
        let pairs : ◌≡◌ {A = List ℕ × List ℕ} (x, z) (s, t) = some_one _ _ f in (
          string_of a s p ∙ ap string (sym (ap (λ (l : List ℕ × List ℕ). l.0) pairs)),
          string_of b t q ∙ ap string (sym (ap (λ (l : List ℕ × List ℕ). l.1) pairs)),
        )

  split : (l : List Data) → Some (x, z) ≡ pair_of l → l ≡ string x ∷ string z ∷ []
  split [] f = absurd (cc)
  split (a ∷ []) f = absurd (cc)
  split (a ∷ b ∷ []) f = let t = two a b f in (λ i. t.0 i ∷ t.1 i ∷ [])
  split (a ∷ b ∷ c ∷ l) f = absurd (cc)

  at : (o : Option (List Data)) → list_in d ≡ o → Some (x, z) ≡ option_and_then pair_of o → d ≡ array (items_of (string x ∷ string z ∷ []))
  at None g f = absurd (cc)
  at (Some l) g f = array_of d l g ∙ ap (λ (m : List Data). array (items_of m)) (split l f)

pub binding_read : (d : Data) (x z : List ℕ) (o : Option Binding) → Some (x, z) ≡ pair_in d → IsReadAs IsBindingOf (x, z) o → IsReadAs IsBindingData d o
binding_read d x z None e h = λ b k.
    let same : ◌≡◌ {A = List ℕ × List ℕ} (k.0, k.1) (x, z) = some_one _ _ (sym (ap pair_in k.4) ∙ sym e) in
    h b (subst (IsBindingOf b) same (k.2, k.3))
binding_read d x z (Some b) e h = (x, z, h.0, h.1, pair_array d x z e)

pub binding_unread : (d : Data) → None ≡ pair_in d → (b : Binding) → IsBindingData b d → ⊥
binding_unread d e b k = let f : pair_in d ≡ Some (k.0, k.1) = ap pair_in k.4 in absurd (cc (e, f))

-- lists
pub list_read : {A : Type 0} (Is : A → Data → Type 0) (d : Data) (ds : List Data) (o : Option (List A)) → Some ds ≡ list_in d → IsReadAs (AreEach Is) ds o
    → IsReadAs (IsListOf Is) d o
list_read Is d ds None e h = λ xs k.
    let same : k.0 ≡ ds = sym (list_back k.0) ∙ some_one _ _ (sym (ap list_in k.1) ∙ sym e) in
    h xs (subst (AreEach Is xs) same k.2)
list_read Is d ds (Some xs) e h = (ds, array_of d ds (sym e), h)

pub list_unread : {A : Type 0} (Is : A → Data → Type 0) (d : Data) → None ≡ list_in d → (xs : List A) → IsListOf Is xs d → ⊥
list_unread Is d e xs k = let f : list_in d ≡ Some (list_of (items_of k.0)) = ap list_in k.1 in absurd (cc (e, f))

-- an answer that is another
pub if_ok : {A E : Type 0} (P Q : A → Type 0) (r : Result A E) → ((x : A) → P x → Q x) → IfOk r P → IfOk r Q
if_ok P Q (Ok x) f h = f x h
if_ok P Q (Err e) f h = tt

-- the next of some values
pub next_value : (vs : List Value) (i : ℕ) (v : Value) → i < length vs → v ≡ get_or vs i v → map view (drop i vs) ≡ view v ∷ map view (drop (i + 1) vs)
next_value vs i v low is = rw add-one (ap (map view) (drop-cons vs i v low) ∙ ap (λ (x : Value). view x ∷ map view (drop (suc i) vs)) (sym is))

-- ---- members

abbrev pub chosen : Bool → Data → Data → Option (Data × Data)
chosen b d e = if b then Some (d, e) else None

not_two : (es : List (String Global × Value)) → (length es ≡ 2 → ⊥) → None ≡ members_in (members_view es)
not_two [] other = refl
not_two (a ∷ []) other = refl
not_two (a ∷ b ∷ []) other = absurd (other refl)
not_two (a ∷ b ∷ c ∷ es) other = refl

pub unless_two : (es : List (String Global × Value)) (n : ℕ) → n ≡ length es → (n ≡ 2 → ⊥) → None ≡ members_in (members_view es)
unless_two es n is other = not_two es (λ e. other (is ∙ e))

two_entries : (es : List (String Global × Value)) (p q : String Global × Value) → length es ≡ 2 → slice_get es 0 ≡ Some p → slice_get es (length es - 1) ≡ Some q → es ≡ p ∷ q ∷ []
two_entries [] p q two first last = absurd (omega (arith, two))
two_entries (a ∷ []) p q two first last = absurd (omega (arith, two))
two_entries (a ∷ b ∷ []) p q two first last = let f = some_one a p first in let l = some_one b q last in (λ i. f i ∷ l i ∷ [])
two_entries (a ∷ b ∷ c ∷ es) p q two first last = absurd (omega (arith, two))

pub keys_are : (es : List (String Global × Value)) (p q : String Global × Value) (n : ℕ) (first last : List ℕ) (b : Bool) → n ≡ length es → n ≡ 2
    → slice_get es 0 ≡ Some p → slice_get es (length es - 1) ≡ Some q → first ≡ string_bytes p.0 → last ≡ string_bytes q.0
    → b ≡ (bytes_eq first (codes "kind") && bytes_eq last (codes "steps")) → chosen b (view p.1) (view q.1) ≡ members_in (members_view es)
keys_are es p q n first last b is two front back k l e =
    (λ i. chosen ((e ∙ (λ j. bytes_eq (k j) (codes "kind") && bytes_eq (l j) (codes "steps"))) i) (view p.1) (view q.1))
    ∙ ap (λ (m : List (String Global × Value)). members_in (members_view m)) (sym (two_entries es p q (sym is ∙ two) front back))
