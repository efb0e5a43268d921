-- Each bytes have an answer.
use Rattle.std.proofs.Common.{◌≡◌, ◌<◌, ◌≤◌, ◌^◌, ◌+◌, ℕ, Bool, true, false, List, [], ◌∷◌, ◌++◌, length, length-append, Option, Some, None, refl, sym, ap, subst, ◌⊎◌, inl, inr, arith}
use Rattle.std.specs.Prelude.{option_and_then, Result, Ok, Err}
use Rattle.std.specs.Str.{bytes_eq, is_utf8}
use Rattle.std.proofs.lemmas.Bool.{cases_lt}
use Rattle.std.proofs.lemmas.Str.{IsUtf8-from_is_utf8, is_utf8-from_IsUtf8}
use Rattle.serde_json.specs.Data.{Data, null, boolean, string, array, object, unsigned, negative, float}
use Rattle.serde_json.specs.Data as datum
use Rattle.serde_json.specs.Find.{as_str, as_u64, as_number}
use Rattle.serde_json.specs.Read.{read}
use Rattle.sap_terms.specs.declared.binding.Binding.{Binding}
use Rattle.sap_terms.specs.Tree.{Tree}
use Rattle.sap_terms.specs.View.{tree, term, tree-term}
use Rattle.sap_run_lines.specs.RunTerms.{IsRunName}
use Rattle.sap_run_lines.specs.StepLines.{IsDecided}
use Rattle.sap_run_lines.specs.WholeWords.{IsReadAs, IsFreshName, IsPublicName, IsRunVariable, IsWholeTerm}
use Rattle.sap_run_texts.specs.declared.run.Run.{Run}
use Rattle.sap_run_texts.specs.declared.limits.TheConstants.{MOST_PROCESS_STEPS, MOST_RULE_STEPS}
use Rattle.sap_run_texts.specs.RunTexts.{process_head, rule_head}
use Rattle.sap_json.specs.declared.json_fault.JsonFault.{JsonFault}
use Rattle.sap_json.specs.declared.json_fault.JsonFault.TheVariants as fault
use Rattle.sap_json.specs.declared.operands.Operands.{Operands}
use Rattle.sap_json.specs.declared.operands.Operands.TheVariants as op
use Rattle.sap_json.specs.Arrays.{AreEach, IsProcessArray, IsRuleArray}
use Rattle.sap_json.specs.RunValues.{run_object, IsValueOf, AreSteps, process_answer, rule_answer, IsJsonRead, not_json, of_process, of_rules}
use Rattle.sap_json.specs.code.Operands.{AreOperands, process_of, rule_of}
use Rattle.sap_json.specs.code.Reading.{list_in, pair_in, first_in, run_in, IsNumberData, IsFreshData, IsPublicData, IsNameData, IsBindingData, IsBindingOf, IsListOf, AreUses}
use Rattle.sap_json.proofs.OneOperands.{some_one}
use Rattle.sap_json.proofs.OperandsRead.{number_is, fresh_is, public_is, numbers_is, number_and_fresh_is, applied_is, embedded_is, named_is, none_of_none, none_of_one, none_of_number, none_applied, none_of_uses, none_of_three, none_of_four}
use Rattle.sap_json.proofs.StepsRead.{no_process_word, no_rule_word, no_process_operands, no_rule_operands, process_read, rule_read}
use Rattle.sap_json.proofs.StepLists.{IsSoFar, begins, goes_on, is_bad, is_many, is_all}
use Rattle.sap_json.proofs.ValueParts.{number_none, text_read, text_unread, name_of_text, no_name_of_text, no_text, binding_read, binding_unread, list_read, list_unread}
use Rattle.sap_json.proofs.RunsRead.{run_is, no_parts, other_kind, kind_is}

-- it is something, or nothing's
abbrev Reads : {A B : Type 0} → (A → B → Type 0) → B → Type 0
Reads {A = A} Is y = (o : Option A) × IsReadAs Is y o

of_decided : {A : Type 0} (Is : A → List ℕ → Type 0) (z : List ℕ) → IsDecided Is z → Reads Is z
of_decided Is z (inl h) = (Some h.0, h.1)
of_decided Is z (inr h) = (None, h)

number_reads : (d : Data) → Reads IsNumberData d
number_reads null = (None, number_none null refl)
number_reads (boolean b) = (None, number_none (boolean b) refl)
number_reads (datum.number (unsigned m)) = at (cases_lt m (2 ^ 64)) where
  at : (m < 2 ^ 64) ⊎ (2 ^ 64 ≤ m) → Reads IsNumberData (datum.number (unsigned m))
  at (inl low) = (Some m, (low, refl))
  at (inr high) = (
    None,
    λ n h.
        let same : m ≡ n = some_one m n (ap (λ x. option_and_then as_u64 (as_number x)) h.1) in absurd (omega (arith, high, h.0, same)),
  )
number_reads (datum.number (negative z)) = (None, number_none (datum.number (negative z)) refl)
number_reads (datum.number (float x)) = (None, number_none (datum.number (float x)) refl)
number_reads (string s) = (None, number_none (string s) refl)
number_reads (array is) = (None, number_none (array is) refl)
number_reads (object ms) = (None, number_none (object ms) refl)

-- strings that are decided
text_reads : {A : Type 0} (Is : A → List ℕ → Type 0) → ((z : List ℕ) → IsDecided Is z) → (d : Data) → Reads (λ x d. (y : List ℕ) × Is x y × (d ≡ string y)) d
text_reads {A = A} Is decided d = at (as_str d) refl where
  at : (o : Option (List ℕ)) → as_str d ≡ o → Reads {A = A} {B = Data} (λ x d. (y : List ℕ) × Is x y × (d ≡ string y)) d
  at None e = (None, text_unread Is d (sym e))
  at (Some z) e = let r = of_decided Is z (decided z) in (r.0, text_read Is d z r.0 (sym e) r.1)

-- things and their data
module _ {A : Type 0} (Is : A → Data → Type 0) (one : (d : Data) → Reads Is d) where
  each_reads : (ds : List Data) → Reads (AreEach Is) ds
  each_reads [] = (Some [], tt)
  each_reads (d ∷ ds) = at (one d).0 (one d).1 (each_reads ds) where
    go : (x : A) → Is x d → (o : Option (List A)) → IsReadAs (AreEach Is) ds o → Reads (AreEach Is) (d ∷ ds)
    go x h None none = (None, more) where
      more : (ys : List A) → AreEach Is ys (d ∷ ds) → ⊥
      more [] k = k
      more (y ∷ ys) k = none ys k.1
    go x h (Some xs) hs = (Some (x ∷ xs), (h, hs))

    at : (o : Option A) → IsReadAs Is d o → Reads (AreEach Is) ds → Reads (AreEach Is) (d ∷ ds)
    at None none rest = (None, more) where
      more : (ys : List A) → AreEach Is ys (d ∷ ds) → ⊥
      more [] k = k
      more (y ∷ ys) k = none y k.0
    at (Some x) h rest = go x h rest.0 rest.1

  list_reads : (d : Data) → Reads (IsListOf Is) d
  list_reads d = at (list_in d) refl where
    at : (o : Option (List Data)) → list_in d ≡ o → Reads (IsListOf Is) d
    at None e = (None, list_unread Is d (sym e))
    at (Some ds) e = let r = each_reads ds in (r.0, list_read Is d ds r.0 (sym e) r.1)

  -- the answer on items, of which there may be so many
  steps_from : (most : ℕ) (all rest : List Data) (xs : List A) → IsSoFar Is xs all rest → length xs ≤ most → (o : Result (List A) JsonFault) × AreSteps Is most all o
  steps_from most all [] xs so_far few = (Ok xs, is_all Is most xs all so_far few)
  steps_from most all (d ∷ rest) xs so_far few = at (λ ys h low. steps_from most all rest ys h low) (cases_lt (length xs) most) where
    go : ((ys : List A) → IsSoFar Is ys all rest → length ys ≤ most → (r : Result (List A) JsonFault) × AreSteps Is most all r) → length xs < most → (o : Option A) → IsReadAs Is d o → (r : Result (List A) JsonFault) × AreSteps Is most all r
    go further low None none = (Err (fault.BadStep (length xs + 1)), is_bad Is most xs all d rest so_far low none)
    go further low (Some x) h = further (xs ++ x ∷ []) (goes_on Is xs x all d rest so_far h) (omega (arith, low, length-append xs (x ∷ [])))

    at : ((ys : List A) → IsSoFar Is ys all rest → length ys ≤ most → (r : Result (List A) JsonFault) × AreSteps Is most all r) → (length xs < most) ⊎ (most ≤ length xs) → (r : Result (List A) JsonFault) × AreSteps Is most all r
    at further (inl low) = go further low (one d).0 (one d).1
    at further (inr high) = (Err (fault.TooManySteps most), is_many Is most xs all d rest so_far few high)

  steps_read : (most : ℕ) (ds : List Data) → (o : Result (List A) JsonFault) × AreSteps Is most ds o
  steps_read most ds = steps_from most ds ds [] (begins Is ds) (omega arith)

module _ (one_operands : (o p : Operands) (ds : List Data) → AreOperands o ds → AreOperands p ds → o ≡ p) (name : (z : List ℕ) → IsRunName z ⊎ (IsRunName z → ⊥))
    (fresh : (z : List ℕ) → IsDecided IsFreshName z) (public : (z : List ℕ) → IsDecided IsPublicName z) (variable : (z : List ℕ) → IsDecided IsRunVariable z)
    (whole : (z : List ℕ) → IsDecided IsWholeTerm z) where
  fresh_reads : (d : Data) → Reads IsFreshData d
  fresh_reads = text_reads IsFreshName fresh

  public_reads : (d : Data) → Reads IsPublicData d
  public_reads = text_reads IsPublicName public

  name_reads : (d : Data) → Reads IsNameData d
  name_reads d = at (as_str d) refl where
    go : (z : List ℕ) → as_str d ≡ Some z → IsRunName z ⊎ (IsRunName z → ⊥) → Reads IsNameData d
    go z e (inl n) = (Some z, name_of_text d z (sym e) n)
    go z e (inr none) = (None, no_name_of_text d z (sym e) none)

    at : (o : Option (List ℕ)) → as_str d ≡ o → Reads IsNameData d
    at None e = (None, λ x h. no_text d x (sym e) h.1)
    at (Some z) e = go z e (name z)

  pair_reads : (x z : List ℕ) → Reads IsBindingOf (x, z)
  pair_reads x z = at (variable x) (whole z) where
    at : IsDecided IsRunVariable x → IsDecided IsWholeTerm z → Reads IsBindingOf (x, z)
    at (inr none) t = (None, λ b h. none b.var h.0)
    at (inl v) (inr none) = (None, λ b h. none (tree b.term) h.1)
    at (inl v) (inl t) = (Some (record { var = v.0; term = term t.0 }), (v.1, subst (λ (u : Tree). IsWholeTerm u z) (sym (tree-term t.0)) t.1))

  binding_reads : (d : Data) → Reads IsBindingData d
  binding_reads d = at (pair_in d) refl where
    at : (o : Option (List ℕ × List ℕ)) → pair_in d ≡ o → Reads IsBindingData d
    at None e = (None, binding_unread d (sym e))
    at (Some p) e = let r = pair_reads p.0 p.1 in (r.0, binding_read d p.0 p.1 r.0 (sym e) r.1)

  numbers_reads : (d : Data) → Reads (IsListOf IsNumberData) d
  numbers_reads = list_reads IsNumberData number_reads

  uses_reads : (b c : Data) → Reads AreUses (b, c)
  uses_reads b c = at (numbers_reads b).0 (list_reads IsBindingData binding_reads c).0 (numbers_reads b).1 (list_reads IsBindingData binding_reads c).1 where
    at : (o : Option (List ℕ)) (u : Option (List Binding)) → IsReadAs (IsListOf IsNumberData) b o → IsReadAs (IsListOf IsBindingData) c u → Reads AreUses (b, c)
    at None u none k = (None, λ p h. none p.0 h.0)
    at (Some ks) None h none = (None, λ p q. none p.1 q.1)
    at (Some ks) (Some bs) h k = (Some (ks, bs), (h, k))

  one_reads : (a : Data) → Reads AreOperands (a ∷ [])
  one_reads a = at (number_reads a).0 (fresh_reads a).0 (public_reads a).0 (number_reads a).1 (fresh_reads a).1 (public_reads a).1 where
    at : (n f : Option ℕ) (p : Option (List ℕ)) → IsReadAs IsNumberData a n → IsReadAs IsFreshData a f → IsReadAs IsPublicData a p → Reads AreOperands (a ∷ [])
    at (Some n) f p h k l = (Some (op.Number n), number_is n a h)
    at None (Some n) p h k l = (Some (op.Fresh n), fresh_is n a k)
    at None None (Some s) h k l = (Some (op.Public s), public_is s a l)
    at None None None h k l = (None, none_of_one a h k l)

  two_reads : (a b : Data) → Reads AreOperands (a ∷ b ∷ [])
  two_reads a b = first (number_reads a).0 (number_reads a).1 where
    numbered : (n : ℕ) → IsNumberData n a → (m f : Option ℕ) → IsReadAs IsNumberData b m → IsReadAs IsFreshData b f → Reads AreOperands (a ∷ b ∷ [])
    numbered n h (Some m) f k l = (Some (op.Numbers n m), numbers_is n m a b h k)
    numbered n h None (Some m) k l = (Some (op.NumberAndFresh n m), number_and_fresh_is n m a b h l)
    numbered n h None None k l = (None, none_of_number n a b h k l)

    named : ((n : ℕ) → IsNumberData n a → ⊥) → (f ks : Option (List ℕ)) → IsReadAs IsNameData a f → IsReadAs (IsListOf IsNumberData) b ks → Reads AreOperands (a ∷ b ∷ [])
    named none None ks h k = (None, none_applied a b none (λ f l p q. h f p))
    named none (Some f) None h k = (None, none_applied a b none (λ g l p q. k l q))
    named none (Some f) (Some ks) h k = (Some (op.Applied f ks), applied_is f ks a b h k)

    first : (n : Option ℕ) → IsReadAs IsNumberData a n → Reads AreOperands (a ∷ b ∷ [])
    first (Some n) h = numbered n h (number_reads b).0 (fresh_reads b).0 (number_reads b).1 (fresh_reads b).1
    first None none = named none (name_reads a).0 (numbers_reads b).0 (name_reads a).1 (numbers_reads b).1

  three_reads : (a b c : Data) → Reads AreOperands (a ∷ b ∷ c ∷ [])
  three_reads a b c = at (uses_reads b c).0 (number_reads a).0 (name_reads a).0 (uses_reads b c).1 (number_reads a).1 (name_reads a).1 where
    at : (u : Option (List ℕ × List Binding)) (n : Option ℕ) (x : Option (List ℕ)) → IsReadAs AreUses (b, c) u → IsReadAs IsNumberData a n → IsReadAs IsNameData a x
        → Reads AreOperands (a ∷ b ∷ c ∷ [])
    at None n x h k l = (None, none_of_uses a b c h)
    at (Some u) (Some n) x h k l = (Some (op.Embedded n u.0 u.1), embedded_is n u a b c k h)
    at (Some u) None (Some x) h k l = (Some (op.Named x u.0 u.1), named_is x u a b c l h)
    at (Some u) None None h k l = (None, none_of_three a b c k l)

  operands_read : (ds : List Data) → Reads AreOperands ds
  operands_read [] = (None, none_of_none)
  operands_read (a ∷ []) = one_reads a
  operands_read (a ∷ b ∷ []) = two_reads a b
  operands_read (a ∷ b ∷ c ∷ []) = three_reads a b c
  operands_read (a ∷ b ∷ c ∷ d ∷ ds) = (None, none_of_four a b c d ds)

  process_reads : (d : Data) → Reads IsProcessArray d
  process_reads d = at (first_in d) refl where
    go : (x : List ℕ) (ds : List Data) → first_in d ≡ Some (x, ds) → (o : Option Operands) → IsReadAs AreOperands ds o → Reads IsProcessArray d
    go x ds e None none = (None, no_process_operands d x ds (sym e) none)
    go x ds e (Some o) h = (process_of x o, process_read one_operands d x ds o (sym e) h)

    at : (o : Option (List ℕ × List Data)) → first_in d ≡ o → Reads IsProcessArray d
    at None e = (None, no_process_word d (sym e))
    at (Some p) e = go p.0 p.1 e (operands_read p.1).0 (operands_read p.1).1

  rule_reads : (d : Data) → Reads IsRuleArray d
  rule_reads d = at (first_in d) refl where
    go : (x : List ℕ) (ds : List Data) → first_in d ≡ Some (x, ds) → (o : Option Operands) → IsReadAs AreOperands ds o → Reads IsRuleArray d
    go x ds e None none = (None, no_rule_operands d x ds (sym e) none)
    go x ds e (Some o) h = (rule_of x o, rule_read one_operands d x ds o (sym e) h)

    at : (o : Option (List ℕ × List Data)) → first_in d ≡ o → Reads IsRuleArray d
    at None e = (None, no_rule_word d (sym e))
    at (Some p) e = go p.0 p.1 e (operands_read p.1).0 (operands_read p.1).1

  kind_reads : (z k : List ℕ) (ds : List Data) → IsValueOf z (run_object k ds) → (o : Result Run JsonFault) × IsJsonRead z o
  kind_reads z k ds v = at (bytes_eq k process_head) (bytes_eq k rule_head) refl refl where
    at : (p r : Bool) → bytes_eq k process_head ≡ p → bytes_eq k rule_head ≡ r → (o : Result Run JsonFault) × IsJsonRead z o
    at true r e f =
        let given = steps_read IsProcessArray process_reads MOST_PROCESS_STEPS ds in
        (process_answer given.0, of_process ds (subst (λ (x : List ℕ). IsValueOf z (run_object x ds)) (kind_is k process_head (sym e)) v) given.1)
    at false true e f =
        let given = steps_read IsRuleArray rule_reads MOST_RULE_STEPS ds in
        (rule_answer given.0, of_rules ds (subst (λ (x : List ℕ). IsValueOf z (run_object x ds)) (kind_is k rule_head (sym f)) v) given.1)
    at false false e f = (Err fault.NotRun, other_kind z k ds (sym e) (sym f) v)

  value_reads : (z : List ℕ) (d : Data) → IsValueOf z d → (o : Result Run JsonFault) × IsJsonRead z o
  value_reads z d v = at (run_in d) refl where
    at : (o : Option (List ℕ × List Data)) → run_in d ≡ o → (r : Result Run JsonFault) × IsJsonRead z r
    at None e = (Err fault.NotRun, no_parts z d (sym e) v)
    at (Some p) e = kind_reads z p.0 p.1 (subst (IsValueOf z) (run_is d p.0 p.1 (sym e)) v)

  pub some_read : (z : List ℕ) → (o : Result Run JsonFault) × IsJsonRead z o
  some_read z = at (is_utf8 z) (read z) refl refl where
    at : (u : Bool) (o : Option Data) → is_utf8 z ≡ u → read z ≡ o → (r : Result Run JsonFault) × IsJsonRead z r
    at false o e f = (Err fault.NotJson, not_json (λ d v. let yes : is_utf8 z ≡ true = is_utf8-from_IsUtf8 z v.utf8 in absurd (cc (e, yes))))
    at true None e f = (Err fault.NotJson, not_json (λ d v. absurd (cc (f, v.value))))
    at true (Some d) e f = value_reads z d (record { utf8 = IsUtf8-from_is_utf8 z e; value = f })
