-- The step that a word and what stands behind it are, or that they are none's.
use Rattle.std.specs.Prelude.{option_map, option_and_then}
use Rattle.std.proofs.Common.{◌≡◌, ℕ, List, [], ◌∷◌, Option, Some, None, refl, sym, ap, subst, ◌∙◌}
use Rattle.serde_json.specs.Data.{Data, null, boolean, string, array, object, Items, Members}
use Rattle.serde_json.specs.Data as datum
use Rattle.serde_json.specs.Find.{as_str}
use Rattle.serde_json.specs.View.{items_of}
use Rattle.sap_text.specs.declared.token.Kind.TheVariants as kind
use Rattle.sap_text.specs.Tokens.{IsToken}
use Rattle.sap_runs.specs.declared.process_step.PStep.{PStep}
use Rattle.sap_runs.specs.declared.rule_step.RStep.{RStep}
use Rattle.sap_run_lines.specs.LineWords.{identifier}
use Rattle.sap_run_lines.specs.WholeWords.{IsReadAs}
use Rattle.sap_json.specs.declared.operands.Operands.{Operands}
use Rattle.sap_json.specs.Arrays.{Cell, one, AreEach, IsCellData, IsProcessArray, IsRuleArray, process_cells, rule_cells}
use Rattle.sap_json.specs.code.Operands.{operand_cells, AreNamed, AreOperands, process_word, process_operands, process_of, rule_word, rule_operands, rule_of}
use Rattle.sap_json.specs.code.Reading.{list_in, first_of, first_in}
use Rattle.sap_json.proofs.Each.{list_back, items_back}
use Rattle.sap_json.proofs.OneOperands.{some_one}
use Rattle.sap_json.proofs.StepForms.{process_apart, process_named, process_names, process_token, process_back, process_only, rule_apart, rule_named, rule_names, rule_token, rule_back, rule_only}

-- the first item of an array that begins with this string
pub first_is : (x : List ℕ) (ds : List Data) → first_in (array (items_of (string x ∷ ds))) ≡ Some (x, ds)
first_is x ds = ap (λ l. Some (x, l)) (list_back ds)

pub array_of : (d : Data) (ds : List Data) → list_in d ≡ Some ds → d ≡ array (items_of ds)
array_of null ds e = absurd (cc)
array_of (boolean b) ds e = absurd (cc)
array_of (datum.number n) ds e = absurd (cc)
array_of (string s) ds e = absurd (cc)
array_of (array is) ds e = ap array (sym (items_back is) ∙ ap items_of (some_one _ _ e))
array_of (object ms) ds e = absurd (cc)

pub string_of : (d : Data) (x : List ℕ) → as_str d ≡ Some x → d ≡ string x
string_of null x e = absurd (cc)
string_of (boolean b) x e = absurd (cc)
string_of (datum.number n) x e = absurd (cc)
string_of (string s) x e = ap string (some_one _ _ e)
string_of (array is) x e = absurd (cc)
string_of (object ms) x e = absurd (cc)

-- and where the first item is a string, the array begins with it
first_array : (d : Data) (x : List ℕ) (ds : List Data) → first_in d ≡ Some (x, ds) → d ≡ array (items_of (string x ∷ ds))
first_array d x ds e = at (list_in d) refl e where
  split : (l : List Data) → first_of l ≡ Some (x, ds) → l ≡ string x ∷ ds
  split [] f = absurd (cc)
  split (a ∷ l) f = go (as_str a) refl f where
    go : (o : Option (List ℕ)) → as_str a ≡ o → option_map {U = List ℕ × List Data} (λ z. (z, l)) o ≡ Some (x, ds) → a ∷ l ≡ string x ∷ ds
    go None g f = absurd (cc)
    go (Some y) g f =
        let pairs : ◌≡◌ {A = List ℕ × List Data} (y, l) (x, ds) = some_one _ _ f in
        (λ i. string_of a y g i ∷ l) ∙ (λ i. string (ap (λ (p : List ℕ × List Data). p.0) pairs i) ∷ ap (λ (p : List ℕ × List Data). p.1) pairs i)

  at : (o : Option (List Data)) → list_in d ≡ o → option_and_then first_of o ≡ Some (x, ds) → d ≡ array (items_of (string x ∷ ds))
  at None g f = absurd (cc)
  at (Some l) g f = array_of d l g ∙ ap (λ (m : List Data). array (items_of m)) (split l f)

-- what stands in an array that begins with a word
beginning : (cells : List Cell) (w : List ℕ) (o : Operands) (d : Data) (items : List Data) → cells ≡ one (identifier w) ∷ operand_cells o → d ≡ array (items_of items)
    → AreEach IsCellData cells items → AreNamed o → (ds : List Data) × (first_in d ≡ Some (w, ds)) × AreOperands o ds
beginning cells w o d [] e is are named = absurd (subst (λ (cs : List Cell). AreEach IsCellData cs []) e are)
beginning cells w o d (a ∷ items) e is are named =
    let h = subst (λ (cs : List Cell). AreEach IsCellData cs (a ∷ items)) e are in
    (items, ap first_in (is ∙ ap (λ (x : Data). array (items_of (x ∷ items))) h.0.1) ∙ first_is w items, (named, h.1))

pub process_begins : (s : PStep) (d : Data) → IsProcessArray s d → (ds : List Data) × (first_in d ≡ Some (process_word s, ds)) × AreOperands (process_operands s) ds
process_begins s d h = beginning (process_cells s) (process_word s) (process_operands s) d h.items (process_apart s) h.is h.are (process_named s h.named)

pub rule_begins : (s : RStep) (d : Data) → IsRuleArray s d → (ds : List Data) × (first_in d ≡ Some (rule_word s, ds)) × AreOperands (rule_operands s) ds
rule_begins s d h = beginning (rule_cells s) (rule_word s) (rule_operands s) d h.items (rule_apart s) h.is h.are (rule_named s h.named)

joined : (cells : List Cell) (w : List ℕ) (o : Operands) (ds : List Data) → cells ≡ one (identifier w) ∷ operand_cells o → IsToken kind.Ident w → AreOperands o ds
    → AreEach IsCellData cells (string w ∷ ds)
joined cells w o ds e token h = subst (λ (cs : List Cell). AreEach IsCellData cs (string w ∷ ds)) (sym e) ((token, refl), h.1)

process_joins : (s : PStep) (d : Data) (ds : List Data) → first_in d ≡ Some (process_word s, ds) → AreOperands (process_operands s) ds → IsProcessArray s d
process_joins s d ds e h = record {
  named = process_names s h.0;
  items = string (process_word s) ∷ ds;
  is = first_array d (process_word s) ds e;
  are = joined (process_cells s) (process_word s) (process_operands s) ds (process_apart s) (process_token s) h;
}

rule_joins : (s : RStep) (d : Data) (ds : List Data) → first_in d ≡ Some (rule_word s, ds) → AreOperands (rule_operands s) ds → IsRuleArray s d
rule_joins s d ds e h = record {
  named = rule_names s h.0;
  items = string (rule_word s) ∷ ds;
  is = first_array d (rule_word s) ds e;
  are = joined (rule_cells s) (rule_word s) (rule_operands s) ds (rule_apart s) (rule_token s) h;
}

-- steps of one kind
module _ {A : Type 0} (IsArray : A → Data → Type 0) (word : A → List ℕ) (operands : A → Operands) (of : List ℕ → Operands → Option A)
    (begins : (s : A) (d : Data) → IsArray s d → (ds : List Data) × (first_in d ≡ Some (word s, ds)) × AreOperands (operands s) ds)
    (joins : (s : A) (d : Data) (ds : List Data) → first_in d ≡ Some (word s, ds) → AreOperands (operands s) ds → IsArray s d)
    (back : (s : A) → of (word s) (operands s) ≡ Some s)
    (only : (x : List ℕ) (o : Operands) (s : A) → of x o ≡ Some s → (x ≡ word s) × (o ≡ operands s)) where
  no_word : (d : Data) → None ≡ first_in d → (s : A) → IsArray s d → ⊥
  no_word d e s h = let b = begins s d h in absurd (cc (e, b.1))

  -- the word and the data behind it are those of the step
  same_first : (d : Data) (x : List ℕ) (ds : List Data) (s : A) → Some (x, ds) ≡ first_in d → IsArray s d → (x ≡ word s) × AreOperands (operands s) ds
  same_first d x ds s e h =
      let b = begins s d h in
      let pairs : ◌≡◌ {A = List ℕ × List Data} (word s, b.0) (x, ds) = some_one _ _ (sym b.1 ∙ sym e) in (
        sym (ap (λ (p : List ℕ × List Data). p.0) pairs),
        subst (AreOperands (operands s)) (ap (λ (p : List ℕ × List Data). p.1) pairs) b.2,
      )

  no_operands : (d : Data) (x : List ℕ) (ds : List Data) → Some (x, ds) ≡ first_in d → ((o : Operands) → AreOperands o ds → ⊥) → (s : A) → IsArray s d → ⊥
  no_operands d x ds e none s h = none (operands s) (same_first d x ds s e h).1

  module _ (one_operands : (o p : Operands) (ds : List Data) → AreOperands o ds → AreOperands p ds → o ≡ p) where
    same_step : (d : Data) (x : List ℕ) (ds : List Data) (o : Operands) (s : A) → Some (x, ds) ≡ first_in d → AreOperands o ds → IsArray s d → of x o ≡ Some s
    same_step d x ds o s e are h =
        let f = same_first d x ds s e h in
        (λ i. of (f.0 i) (one_operands o (operands s) ds are f.1 i)) ∙ back s

    step_read : (d : Data) (x : List ℕ) (ds : List Data) (o : Operands) → Some (x, ds) ≡ first_in d → AreOperands o ds → IsReadAs IsArray d (of x o)
    step_read d x ds o e are = at (of x o) refl where
      at : (r : Option A) → of x o ≡ r → IsReadAs IsArray d r
      at None f = λ s h. absurd (cc (f, same_step d x ds o s e are h))
      at (Some s) f =
          let is = only x o s f in
          joins s d ds (sym e ∙ ap (λ (y : List ℕ). Some (y, ds)) is.0) (subst (λ (p : Operands). AreOperands p ds) is.1 are)

    one_array : (s u : A) (d : Data) → IsArray s d → IsArray u d → s ≡ u
    one_array s u d h k =
        let b = begins u d k in
        some_one s u (sym (same_step d (word u) b.0 (operands u) s (sym b.1) b.2 h) ∙ back u)

-- no step's
pub no_process_word : (d : Data) → None ≡ first_in d → (s : PStep) → IsProcessArray s d → ⊥
no_process_word = no_word IsProcessArray process_word process_operands process_of process_begins process_joins process_back process_only

pub no_rule_word : (d : Data) → None ≡ first_in d → (s : RStep) → IsRuleArray s d → ⊥
no_rule_word = no_word IsRuleArray rule_word rule_operands rule_of rule_begins rule_joins rule_back rule_only

pub no_process_operands : (d : Data) (x : List ℕ) (ds : List Data) → Some (x, ds) ≡ first_in d → ((o : Operands) → AreOperands o ds → ⊥) → (s : PStep) → IsProcessArray s d → ⊥
no_process_operands = no_operands IsProcessArray process_word process_operands process_of process_begins process_joins process_back process_only

pub no_rule_operands : (d : Data) (x : List ℕ) (ds : List Data) → Some (x, ds) ≡ first_in d → ((o : Operands) → AreOperands o ds → ⊥) → (s : RStep) → IsRuleArray s d → ⊥
no_rule_operands = no_operands IsRuleArray rule_word rule_operands rule_of rule_begins rule_joins rule_back rule_only

module _ (one_operands : (o p : Operands) (ds : List Data) → AreOperands o ds → AreOperands p ds → o ≡ p) where
  pub process_read : (d : Data) (x : List ℕ) (ds : List Data) (o : Operands) → Some (x, ds) ≡ first_in d → AreOperands o ds → IsReadAs IsProcessArray d (process_of x o)
  process_read = step_read IsProcessArray process_word process_operands process_of process_begins process_joins process_back process_only one_operands

  pub rule_read : (d : Data) (x : List ℕ) (ds : List Data) (o : Operands) → Some (x, ds) ≡ first_in d → AreOperands o ds → IsReadAs IsRuleArray d (rule_of x o)
  rule_read = step_read IsRuleArray rule_word rule_operands rule_of rule_begins rule_joins rule_back rule_only one_operands

  pub one_process : (s u : PStep) (d : Data) → IsProcessArray s d → IsProcessArray u d → s ≡ u
  one_process = one_array IsProcessArray process_word process_operands process_of process_begins process_joins process_back process_only one_operands

  pub one_rule : (s u : RStep) (d : Data) → IsRuleArray s d → IsRuleArray u d → s ≡ u
  one_rule = one_array IsRuleArray rule_word rule_operands rule_of rule_begins rule_joins rule_back rule_only one_operands
