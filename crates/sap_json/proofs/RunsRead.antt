-- What a value is as a run.
use Rattle.std.proofs.Common.{◌≡◌, ℕ, Bool, true, false, List, [], ◌∷◌, Option, Some, None, refl, sym, ap, subst, ◌∙◌, inl, inr, arith}
use Rattle.std.specs.Prelude.{codes, ◌&&◌, if◌then◌else◌, Result, Ok, Err, option_and_then}
use Rattle.std.specs.Str.{bytes_eq}
use Rattle.std.proofs.lemmas.Slice.Eq.{bytes_eq-Decides}
use Rattle.serde_json.specs.Data.{Data, null, boolean, string, array, object, Items, Members, no_members, member}
use Rattle.serde_json.specs.Data as datum
use Rattle.serde_json.specs.Find.{as_str, as_object}
use Rattle.serde_json.specs.View.{items_of}
use Rattle.sap_runs.specs.declared.process_step.PStep.{PStep}
use Rattle.sap_runs.specs.declared.rule_step.RStep.{RStep}
use Rattle.sap_run_texts.specs.declared.run.Run.{Run}
use Rattle.sap_run_texts.specs.declared.limits.TheConstants.{MOST_PROCESS_STEPS, MOST_RULE_STEPS}
use Rattle.sap_run_texts.specs.RunTexts.{process_head, rule_head}
use Rattle.sap_json.specs.declared.json_fault.JsonFault.{JsonFault}
use Rattle.sap_json.specs.declared.json_fault.JsonFault.TheVariants as fault
use Rattle.sap_json.specs.Arrays.{IsProcessArray, IsRuleArray}
use Rattle.sap_json.specs.RunValues.{run_object, IsKind, IsValueOf, AreSteps, process_answer, rule_answer, IsJsonRead, not_json, not_run, of_process, of_rules, IsTold}
use Rattle.sap_json.specs.code.Reading.{list_in, both, members_in, parts_of, run_in}
use Rattle.sap_json.proofs.Each.{list_back}
use Rattle.sap_json.proofs.OneOperands.{some_one}
use Rattle.sap_json.proofs.StepsRead.{array_of, string_of}
use Rattle.sap_json.proofs.StepLists.{one_answer}

-- the object of a kind and of items has these parts
parts_are : (k : List ℕ) (ds : List Data) → run_in (run_object k ds) ≡ Some (k, ds)
parts_are k ds = ap (λ l. Some (k, l)) (list_back ds)

and_both : (a b : Bool) → (a && b) ≡ true → (a ≡ true) × (b ≡ true)
and_both true true e = (refl, refl)
and_both true false e = absurd (cc)
and_both false b e = absurd (cc)

members_are : (ms : Members) (d e : Data) → members_in ms ≡ Some (d, e) → ms ≡ member (codes "kind") d (member (codes "steps") e no_members)
members_are no_members d e h = absurd (cc)
members_are (member k a no_members) d e h = absurd (cc)
members_are (member k a (member l b no_members)) d e h = at (bytes_eq k (codes "kind") && bytes_eq l (codes "steps")) refl h where
  at : (c : Bool) → (bytes_eq k (codes "kind") && bytes_eq l (codes "steps")) ≡ c → ◌≡◌ {A = Option (Data × Data)} (if c then Some (a, b) else None) (Some (d, e))
      → member k a (member l b no_members) ≡ member (codes "kind") d (member (codes "steps") e no_members)
  at false f g = absurd (cc)
  at true f g =
      let both = and_both (bytes_eq k (codes "kind")) (bytes_eq l (codes "steps")) f in
      let first : k ≡ codes "kind" = (bytes_eq-Decides k (codes "kind")).0 both.0 in
      let second : l ≡ codes "steps" = (bytes_eq-Decides l (codes "steps")).0 both.1 in
      let pairs : ◌≡◌ {A = Data × Data} (a, b) (d, e) = some_one _ _ g in
      (λ i. member (first i) (ap (λ (p : Data × Data). p.0) pairs i) (member (second i) (ap (λ (p : Data × Data). p.1) pairs i) no_members))
members_are (member k a (member l b (member m c ms))) d e h = absurd (cc)

object_of : (d : Data) (ms : Members) → as_object d ≡ Some ms → d ≡ object ms
object_of null ms e = absurd (cc)
object_of (boolean b) ms e = absurd (cc)
object_of (datum.number n) ms e = absurd (cc)
object_of (string s) ms e = absurd (cc)
object_of (array is) ms e = absurd (cc)
object_of (object ns) ms e = ap object (some_one _ _ e)

both_are : (a b : Data) (k : List ℕ) (ds : List Data) → both (as_str a) (list_in b) ≡ Some (k, ds) → (a ≡ string k) × (b ≡ array (items_of ds))
both_are a b k ds h = at (as_str a) (list_in b) refl refl h where
  at : (o : Option (List ℕ)) (u : Option (List Data)) → as_str a ≡ o → list_in b ≡ u → both o u ≡ Some (k, ds) → (a ≡ string k) × (b ≡ array (items_of ds))
  at None u p q f = absurd (cc)
  at (Some s) None p q f = absurd (cc)
  at (Some s) (Some l) p q f =
      let pairs : ◌≡◌ {A = List ℕ × List Data} (s, l) (k, ds) = some_one _ _ f in (
        string_of a s p ∙ ap string (ap (λ (r : List ℕ × List Data). r.0) pairs),
        array_of b l q ∙ ap (λ (m : List Data). array (items_of m)) (ap (λ (r : List ℕ × List Data). r.1) pairs),
      )

pub run_is : (d : Data) (k : List ℕ) (ds : List Data) → Some (k, ds) ≡ run_in d → d ≡ run_object k ds
run_is d k ds e = at (as_object d) refl (sym e) where
  go : (ms : Members) (o : Option (Data × Data)) → as_object d ≡ Some ms → members_in ms ≡ o → option_and_then parts_of o ≡ Some (k, ds) → d ≡ run_object k ds
  go ms None p q f = absurd (cc)
  go ms (Some m) p q f =
      let parts = both_are m.0 m.1 k ds f in
      object_of d ms p ∙ ap object (members_are ms m.0 m.1 q) ∙ (λ i. object (member (codes "kind") (parts.0 i) (member (codes "steps") (parts.1 i) no_members)))

  at : (o : Option Members) → as_object d ≡ o → option_and_then parts_of (option_and_then members_in o) ≡ Some (k, ds) → d ≡ run_object k ds
  at None p f = absurd (cc)
  at (Some ms) p f = go ms (members_in ms) p refl f

-- ---- what the code answers

pub no_parts : (z : List ℕ) (d : Data) → None ≡ run_in d → IsValueOf z d → IsJsonRead z (Err fault.NotRun)
no_parts z d e v = not_run d v (λ kind steps k is. let f : run_in d ≡ Some (kind, steps) = ap run_in is ∙ parts_are kind steps in absurd (cc (e, f)))

pub other_kind : (z : List ℕ) (kind : List ℕ) (ds : List Data) → false ≡ bytes_eq kind process_head → false ≡ bytes_eq kind rule_head → IsValueOf z (run_object kind ds)
    → IsJsonRead z (Err fault.NotRun)
other_kind z kind ds no_process no_rules v = not_run (run_object kind ds) v none where
  differs : (head : List ℕ) → false ≡ bytes_eq kind head → kind ≡ head → ⊥
  differs head other is = let yes : bytes_eq kind head ≡ true = (bytes_eq-Decides kind head).1 is in absurd (cc (other, yes))

  neither : IsKind kind → ⊥
  neither (inl is) = differs process_head no_process is
  neither (inr is) = differs rule_head no_rules is

  none : (other : List ℕ) (steps : List Data) → IsKind other → run_object kind ds ≡ run_object other steps → ⊥
  none other steps k same =
      let pairs : ◌≡◌ {A = List ℕ × List Data} (kind, ds) (other, steps) = some_one _ _ (sym (parts_are kind ds) ∙ ap run_in same ∙ parts_are other steps) in
      neither (subst IsKind (sym (ap (λ (p : List ℕ × List Data). p.0) pairs)) k)

pub kind_is : (kind head : List ℕ) → true ≡ bytes_eq kind head → kind ≡ head
kind_is kind head e = (bytes_eq-Decides kind head).0 (sym e)

pub process_told : (z : List ℕ) (ds : List Data) (r : Result (List PStep) JsonFault) → IsTold (AreSteps IsProcessArray MOST_PROCESS_STEPS ds) r
    → IsValueOf z (run_object process_head ds) → IsTold (IsJsonRead z) (process_answer r)
process_told z ds (Ok ss) h v = of_process ds v h
process_told z ds (Err fault.Mem) h v = tt
process_told z ds (Err fault.NotJson) h v = of_process ds v h
process_told z ds (Err fault.NotRun) h v = of_process ds v h
process_told z ds (Err (fault.BadStep n)) h v = of_process ds v h
process_told z ds (Err (fault.TooManySteps most)) h v = of_process ds v h

pub rule_told : (z : List ℕ) (ds : List Data) (r : Result (List RStep) JsonFault) → IsTold (AreSteps IsRuleArray MOST_RULE_STEPS ds) r
    → IsValueOf z (run_object rule_head ds) → IsTold (IsJsonRead z) (rule_answer r)
rule_told z ds (Ok ss) h v = of_rules ds v h
rule_told z ds (Err fault.Mem) h v = tt
rule_told z ds (Err fault.NotJson) h v = of_rules ds v h
rule_told z ds (Err fault.NotRun) h v = of_rules ds v h
rule_told z ds (Err (fault.BadStep n)) h v = of_rules ds v h
rule_told z ds (Err (fault.TooManySteps most)) h v = of_rules ds v h

-- ---- bytes have one answer at most

-- the first byte, or 0
abbrev first_byte : List ℕ → ℕ
first_byte [] = 0
first_byte (b ∷ z) = b

same_value : (z : List ℕ) (d e : Data) → IsValueOf z d → IsValueOf z e → d ≡ e
same_value z d e h k = some_one d e (sym h.value ∙ k.value)

module _ (one_process : (s u : PStep) (d : Data) → IsProcessArray s d → IsProcessArray u d → s ≡ u)
    (one_rule : (s u : RStep) (d : Data) → IsRuleArray s d → IsRuleArray u d → s ≡ u) where
  same_run : (k l : List ℕ) (ds es : List Data) (z : List ℕ) → IsValueOf z (run_object k ds) → IsValueOf z (run_object l es) → ◌≡◌ {A = List ℕ × List Data} (k, ds) (l, es)
  same_run k l ds es z h v = some_one _ _ (sym (parts_are k ds) ∙ ap run_in (same_value z (run_object k ds) (run_object l es) h v) ∙ parts_are l es)

  two_kinds : process_head ≡ rule_head → ⊥
  two_kinds e = let first : first_byte process_head ≡ first_byte rule_head = ap first_byte e in omega (arith, first)

  pub one_read : (z : List ℕ) (o u : Result Run JsonFault) → IsJsonRead z o → IsJsonRead z u → o ≡ u
  one_read z _ _ (not_json never) (not_json never') = refl
  one_read z _ _ (not_json never) (not_run d v none) = absurd (never d v)
  one_read z _ _ (not_json never) (of_process steps v are) = absurd (never _ v)
  one_read z _ _ (not_json never) (of_rules steps v are) = absurd (never _ v)
  one_read z _ _ (not_run d v none) (not_json never) = absurd (never d v)
  one_read z _ _ (not_run d v none) (not_run e w none') = refl
  one_read z _ _ (not_run d v none) (of_process steps w are) = absurd (none process_head steps (inl refl) (same_value z d _ v w))
  one_read z _ _ (not_run d v none) (of_rules steps w are) = absurd (none rule_head steps (inr refl) (same_value z d _ v w))
  one_read z _ _ (of_process steps v are) (not_json never) = absurd (never _ v)
  one_read z _ _ (of_process steps w are) (not_run d v none) = absurd (none process_head steps (inl refl) (same_value z d _ v w))
  one_read z _ _ (of_process {o = o} ds v are) (of_process {o = u} es w are') =
      let same : ds ≡ es = ap (λ (p : List ℕ × List Data). p.1) (same_run process_head process_head ds es z v w) in
      ap process_answer (one_answer IsProcessArray one_process MOST_PROCESS_STEPS es o u (subst (λ (l : List Data). AreSteps IsProcessArray MOST_PROCESS_STEPS l o) same are) are')
  one_read z _ _ (of_process ds v are) (of_rules es w are') = absurd (two_kinds (ap (λ (p : List ℕ × List Data). p.0) (same_run process_head rule_head ds es z v w)))
  one_read z _ _ (of_rules steps v are) (not_json never) = absurd (never _ v)
  one_read z _ _ (of_rules steps w are) (not_run d v none) = absurd (none rule_head steps (inr refl) (same_value z d _ v w))
  one_read z _ _ (of_rules ds v are) (of_process es w are') = absurd (two_kinds (ap (λ (p : List ℕ × List Data). p.0) (same_run process_head rule_head es ds z w v)))
  one_read z _ _ (of_rules {o = o} ds v are) (of_rules {o = u} es w are') =
      let same : ds ≡ es = ap (λ (p : List ℕ × List Data). p.1) (same_run rule_head rule_head ds es z v w) in
      ap rule_answer (one_answer IsRuleArray one_rule MOST_RULE_STEPS es o u (subst (λ (l : List Data). AreSteps IsRuleArray MOST_RULE_STEPS l o) same are) are')
