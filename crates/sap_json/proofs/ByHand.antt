-- Arrays that are no step's, tried by hand.
use Rattle.std.proofs.Common.{◌≡◌, ℕ, true, false, List, [], ◌∷◌, refl, sym}
use Rattle.std.specs.Prelude.{codes}
use Rattle.std.specs.List.{list_all}
use Rattle.std.specs.Char.{is_ascii_alphabetic}
use Rattle.serde_json.specs.Data.{Data, null, string, array, number, unsigned}
use Rattle.serde_json.specs.View.{items_of}
use Rattle.sap_text.specs.declared.token.Kind.TheVariants as kind
use Rattle.sap_text.specs.Tokens.{is_word, IsToken, ident}
use Rattle.sap_runs.specs.declared.process_step.PStep.{PStep}
use Rattle.sap_json.specs.declared.operands.Operands.{Operands}
use Rattle.sap_json.specs.Arrays.{IsProcessArray}
use Rattle.sap_json.specs.code.Operands.{AreOperands}
use Rattle.sap_json.specs.code.Reading.{IsNumberData, IsNameData, IsListOf}
use Rattle.sap_json.proofs.OperandsRead.{no_name_is_number, none_of_one, none_applied}
use Rattle.sap_json.proofs.StepsRead.{first_is, no_process_operands}

no_step : (x : List ℕ) (ds : List Data) → ((o : Operands) → AreOperands o ds → ⊥) → (s : PStep) → IsProcessArray s (array (items_of (string x ∷ ds))) → ⊥
no_step x ds none s h = no_process_operands (array (items_of (string x ∷ ds))) x ds (sym (first_is x ds)) none s h

token_bytes : (b : ℕ) (z : List ℕ) → IsToken kind.Ident (b ∷ z) → (is_ascii_alphabetic b ≡ true) × (list_all is_word z ≡ true)
token_bytes b z (ident l all) = (l, all)

no_number : (z : List ℕ) (n : ℕ) → IsNumberData n (string z) → ⊥
no_number z n h = no_name_is_number n z (string z) h.1 refl

number_no_list : (m : ℕ) (ks : List ℕ) → IsListOf IsNumberData ks (number (unsigned m)) → ⊥
number_no_list m ks h = let e : number (unsigned m) ≡ array (items_of h.0) = h.1 in absurd (cc)

pub no_null : (s : PStep) → IsProcessArray s (array (items_of (string (codes "nil") ∷ null ∷ []))) → ⊥
no_null = no_step (codes "nil") (null ∷ []) (none_of_one null
    (λ n h. let e : null ≡ number (unsigned n) = h.1 in absurd (cc))
    (λ n h. let e : null ≡ string h.0 = h.2 in absurd (cc))
    (λ n h. let e : null ≡ string h.0 = h.2 in absurd (cc)))

pub no_string : (s : PStep) → IsProcessArray s (array (items_of (string (codes "in") ∷ string (codes "0") ∷ number (unsigned 1) ∷ []))) → ⊥
no_string = no_step (codes "in") (string (codes "0") ∷ number (unsigned 1) ∷ []) (none_applied (string (codes "0")) (number (unsigned 1)) (no_number (codes "0"))
    (λ f ks h k. number_no_list 1 ks k))

pub no_list : (s : PStep) → IsProcessArray s (array (items_of (string (codes "app") ∷ string (codes "h") ∷ number (unsigned 1) ∷ []))) → ⊥
no_list = no_step (codes "app") (string (codes "h") ∷ number (unsigned 1) ∷ []) (none_applied (string (codes "h")) (number (unsigned 1)) (no_number (codes "h"))
    (λ f ks h k. number_no_list 1 ks k))

no_name : (f : List ℕ) → IsNameData f (string (codes "h 0")) → ⊥
no_name f h =
    let same : codes "h 0" ≡ f = cc in
    let e : false ≡ true = (token_bytes 104 (codes " 0") (rw same h.0.is)).1 in
    absurd (cc)

pub no_blank : (s : PStep) → IsProcessArray s (array (items_of (string (codes "app") ∷ string (codes "h 0") ∷ array (items_of (number (unsigned 1) ∷ [])) ∷ []))) → ⊥
no_blank = no_step (codes "app") (string (codes "h 0") ∷ array (items_of (number (unsigned 1) ∷ [])) ∷ [])
    (none_applied (string (codes "h 0")) (array (items_of (number (unsigned 1) ∷ []))) (no_number (codes "h 0")) (λ f ks h k. no_name f h))
