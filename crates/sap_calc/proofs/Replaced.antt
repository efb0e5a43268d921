-- Forms with their variables replaced.
use Rattle.std.proofs.Common.{◌≡◌, ℕ, ◌+◌, List, ◌∷◌, [], map, drop, Some, true, false, if◌then◌else◌, refl, sym, ap, ◌∙◌, subst, Result, IfOk}
use Rattle.std.specs.Prelude.{slice_get}
use Rattle.std.specs.Str.{bytes_eq}
use Rattle.sap_terms.specs.Choice.{Choice, instance, instances}
use Rattle.sap_terms.specs.Modulo.{instance_fact, instance_facts}
use Rattle.sap_terms.specs.Tree.{Tree, more, trees_of}
use Rattle.sap_terms.specs.View.{tree}
use Rattle.sap_terms.specs.declared.fact.Fact.{Fact}
use Rattle.sap_terms.specs.declared.term.Term.{Term}
use Rattle.sap_terms.specs.declared.var.Var.{Var}
use Rattle.sap_terms.proofs.PlainLaws.Lists.{drop_got}
use Rattle.sap_process.specs.Action as action
use Rattle.sap_process.specs.Instance.{process_instance, without}
use Rattle.sap_process.specs.Proc.{act, test, lookup}
use Rattle.sap_share.specs.Env.{given}
use Rattle.sap_share.specs.Shared.{tree_at}
use Rattle.sap_share.specs.declared.env.Bound.{Bound}
use Rattle.sap_lines.specs.declared.form.Form.TheVariants as form
use Rattle.sap_calc.specs.code.Under.{IsFormUnder}

-- where one is reached that has the name, its tree is given
pub given_here : (ts : List Tree) (env : List Bound) (k : ℕ) (e : Bound) (v : Var) → slice_get env k ≡ Some e → bytes_eq e.var.name v.name ≡ true → given ts (drop k env) v ≡ tree_at ts e.id
given_here ts env k e v at h = ap (λ es. given ts es v) (drop_got env k e at) ∙ ap (λ b. if b then tree_at ts e.id else given ts (drop (k + 1) env) v) h

-- where one is reached that has another name, what those behind it give is given
pub given_behind : (ts : List Tree) (env : List Bound) (k : ℕ) (e : Bound) (v : Var) → slice_get env k ≡ Some e → bytes_eq e.var.name v.name ≡ false → given ts (drop k env) v ≡ given ts (drop (k + 1) env) v
given_behind ts env k e v at h = ap (λ es. given ts es v) (drop_got env k e at) ∙ ap (λ b. if b then tree_at ts e.id else given ts (drop (k + 1) env) v) h

-- an answer that has the one tree has the other, where the two are the same
pub told : {E : Type 0} (x y : Tree) (r : Result Term E) → x ≡ y → IfOk r (λ t. tree t ≡ x) → IfOk r (λ t. tree t ≡ y)
told x y r e h = subst (λ z. IfOk r (λ t. tree t ≡ z)) e h

-- an instance in each tree of a list
pub instances_listed : (σ : Choice) (ts : List Tree) → instances σ (trees_of ts) ≡ trees_of (map (instance σ) ts)
instances_listed σ [] = refl
instances_listed σ (t ∷ ts) = ap (more (instance σ t)) (instances_listed σ ts)

module _ (σ : Choice) where
  pub nil_under : IsFormUnder σ form.Nil form.Nil
  nil_under = record { goes = λ p q. record { first = p; second = q; is = refl }; patterns = refl }

  pub par_under : IsFormUnder σ form.Par form.Par
  par_under = record { goes = λ p q. record { first = process_instance σ p; second = process_instance σ q; is = refl }; patterns = refl }

  pub rep_under : IsFormUnder σ form.Rep form.Rep
  rep_under = record { goes = λ p q. record { first = process_instance σ p; second = q; is = refl }; patterns = refl }

  pub new_under : (x y : Var) → y ≡ x → IsFormUnder σ (form.New x) (form.New y)
  new_under x y e = record {
    goes = λ p q. record { first = process_instance (without σ x) p; second = q; is = λ i. act (action.new (sym e i)) (process_instance (without σ x) p) };
    patterns = refl;
  }

  module _ (t u : Term) (e : tree u ≡ instance σ (tree t)) where
    pub out_under : IsFormUnder σ (form.Out t) (form.Out u)
    out_under = record { goes = λ p q. record { first = process_instance σ p; second = q; is = λ i. act (action.out (sym e i)) (process_instance σ p) }; patterns = refl }

    pub in_under : IsFormUnder σ (form.In t) (form.In u)
    in_under = record { goes = λ p q. record { first = process_instance σ p; second = q; is = λ i. act (action.input (sym e i)) (process_instance σ p) }; patterns = λ i. e i ∷ [] }

    pub delete_under : IsFormUnder σ (form.Delete t) (form.Delete u)
    delete_under = record { goes = λ p q. record { first = process_instance σ p; second = q; is = λ i. act (action.delete (sym e i)) (process_instance σ p) }; patterns = refl }

    pub lock_under : (n : ℕ) → IsFormUnder σ (form.Lock t n) (form.Lock u n)
    lock_under n = record { goes = λ p q. record { first = process_instance σ p; second = q; is = λ i. act (action.lock (sym e i) n) (process_instance σ p) }; patterns = refl }

    pub unlock_under : (n : ℕ) → IsFormUnder σ (form.Unlock t n) (form.Unlock u n)
    unlock_under n = record { goes = λ p q. record { first = process_instance σ p; second = q; is = λ i. act (action.unlock (sym e i) n) (process_instance σ p) }; patterns = refl }

    pub lookup_under : (x y : Var) → y ≡ x → IsFormUnder σ (form.Lookup t x) (form.Lookup u y)
    lookup_under x y k = record {
      goes = λ p q. record {
        first = process_instance (without σ x) p;
        second = process_instance σ q;
        is = λ i. lookup (sym e i) (sym k i) (process_instance (without σ x) p) (process_instance σ q);
      };
      patterns = refl;
    }

    module _ (v w : Term) (d : tree w ≡ instance σ (tree v)) where
      pub send_under : IsFormUnder σ (form.Send t v) (form.Send u w)
      send_under = record { goes = λ p q. record { first = process_instance σ p; second = q; is = λ i. act (action.send (sym e i) (sym d i)) (process_instance σ p) }; patterns = refl }

      pub recv_under : IsFormUnder σ (form.Recv t v) (form.Recv u w)
      recv_under = record { goes = λ p q. record { first = process_instance σ p; second = q; is = λ i. act (action.receive (sym e i) (sym d i)) (process_instance σ p) }; patterns = λ i. d i ∷ [] }

      pub insert_under : IsFormUnder σ (form.Insert t v) (form.Insert u w)
      insert_under = record { goes = λ p q. record { first = process_instance σ p; second = q; is = λ i. act (action.insert (sym e i) (sym d i)) (process_instance σ p) }; patterns = refl }

      pub if_under : IsFormUnder σ (form.If t v) (form.If u w)
      if_under = record {
        goes = λ p q. record { first = process_instance σ p; second = process_instance σ q; is = λ i. test (sym e i) (sym d i) (process_instance σ p) (process_instance σ q) };
        patterns = refl;
      }

  pub event_under : (f h : Fact) → h ≡ instance_fact σ f → IsFormUnder σ (form.Event f) (form.Event h)
  event_under f h e = record { goes = λ p q. record { first = process_instance σ p; second = q; is = λ i. act (action.event (sym e i)) (process_instance σ p) }; patterns = refl }

  pub rule_under : (l e r m f s : List Fact) → m ≡ instance_facts σ l → f ≡ instance_facts σ e → s ≡ instance_facts σ r → IsFormUnder σ (form.Embedded l e r) (form.Embedded m f s)
  rule_under l e r m f s a b d = record {
    goes = λ p q. record { first = process_instance σ p; second = q; is = λ i. act (action.embedded (sym a i) (sym b i) (sym d i)) (process_instance σ p) };
    patterns = refl;
  }
