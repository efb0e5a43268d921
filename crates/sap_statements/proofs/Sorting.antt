-- Sorts of binders: giving them twice changes nothing more, and they change neither symbols nor names nor what can be printed.
use Rattle.std.proofs.Common.{◌≡◌, ℕ, false, List, [], ◌∷◌, length, Option, Some, None, refl, sym, ap, subst, ◌∙◌, arith}
use Rattle.std.specs.Prelude.{map}
use Rattle.sap_terms.specs.declared.var.Sort.{Sort}
use Rattle.sap_terms.specs.declared.var.Sort.TheVariants.{Msg, Fresh, Pub}
use Rattle.sap_terms.specs.Choice.{instance, instances}
use Rattle.sap_terms.specs.Tree.{Tree, variable, public, fresh, apply, Trees, none, more, trees_of, list_of}
use Rattle.sap_terms.specs.Signature.{Sig, arity_of}
use Rattle.sap_terms.specs.Message.{IsOver, AreOver}
use Rattle.sap_formula.specs.Form.{Form, truth, falsity, action, equal, same_time, earlier, negation, both, either, implies, equivalent, every, exists}
use Rattle.sap_formula.specs.Checked.{enter, find_binder}
use Rattle.sap_formula.specs.declared.binder.Binder.{Binder}
use Rattle.sap_formula.specs.declared.binder.Binder.TheVariants.{Message, Time}
use Rattle.sap_grammar.specs.TermGrammar.{sorted}
use Rattle.sap_grammar.specs.TermText.{is_pair}
use Rattle.sap_grammar.specs.Printable.{IsTidy, IsTidyVariable, IsTidyUse, AreTidy, HasNames, HaveNames}
use Rattle.sap_formula_grammar.specs.FormulaGrammar.{is_truth_name}
use Rattle.sap_statements.specs.Sorted.{sort_under, by_plain_binder, plainly_sorted}
use Rattle.sap_statements.specs.Printable.{is_written_as_truth, IsTidyForm, IsFormOver, FormHasNames}

chosen_twice : (s : Sort) (o : Option Binder) → sort_under (sort_under s o) o ≡ sort_under s o
chosen_twice Msg None = refl
chosen_twice Msg (Some (Time n)) = refl
chosen_twice Msg (Some (Message b)) = by_sort b.sort refl
  where
    by_sort : (s : Sort) → b.sort ≡ s → sort_under s (Some (Message b)) ≡ s
    by_sort Msg e = e
    by_sort Fresh e = refl
    by_sort Pub e = refl
chosen_twice Fresh o = refl
chosen_twice Pub o = refl

trees_of_instances : (bs : List Binder) (ts : List Tree) → trees_of (map (instance (by_plain_binder bs)) ts) ≡ instances (by_plain_binder bs) (trees_of ts)
trees_of_instances bs [] = refl
trees_of_instances bs (t ∷ ts) = ap (λ (us : Trees). more (instance (by_plain_binder bs) t) us) (trees_of_instances bs ts)

mutual
  sorts_twice : (bs : List Binder) (t : Tree) → instance (by_plain_binder bs) (instance (by_plain_binder bs) t) ≡ instance (by_plain_binder bs) t
  sorts_twice bs (variable v) = ap (λ (s : Sort). sorted s v.name) (chosen_twice v.sort (find_binder bs v.name))
  sorts_twice bs (public n) = refl
  sorts_twice bs (fresh i) = refl
  sorts_twice bs (apply f ts) = ap (λ (us : Trees). apply f us) (all_twice bs ts)

  all_twice : (bs : List Binder) (ts : Trees) → instances (by_plain_binder bs) (instances (by_plain_binder bs) ts) ≡ instances (by_plain_binder bs) ts
  all_twice bs none = refl
  all_twice bs (more t ts) = λ i. more (sorts_twice bs t i) (all_twice bs ts i)

args_twice : (bs : List Binder) (ts : List Tree) → map (instance (by_plain_binder bs)) (map (instance (by_plain_binder bs)) ts) ≡ map (instance (by_plain_binder bs)) ts
args_twice bs [] = refl
args_twice bs (t ∷ ts) = λ i. sorts_twice bs t i ∷ args_twice bs ts i

pub form_twice : (bs : List Binder) (f : Form) → plainly_sorted bs (plainly_sorted bs f) ≡ plainly_sorted bs f
form_twice bs truth = refl
form_twice bs falsity = refl
form_twice bs (action f i) = ap (λ (ts : List Tree). action (record { name = f.name; persistent = f.persistent; args = ts }) i) (args_twice bs f.args)
form_twice bs (equal t u) = λ i. equal (sorts_twice bs t i) (sorts_twice bs u i)
form_twice bs (same_time i j) = refl
form_twice bs (earlier i j) = refl
form_twice bs (negation f) = ap negation (form_twice bs f)
form_twice bs (both f h) = λ i. both (form_twice bs f i) (form_twice bs h i)
form_twice bs (either f h) = λ i. either (form_twice bs f i) (form_twice bs h i)
form_twice bs (implies f h) = λ i. implies (form_twice bs f i) (form_twice bs h i)
form_twice bs (equivalent f h) = λ i. equivalent (form_twice bs f i) (form_twice bs h i)
form_twice bs (every vs f) = ap (every vs) (form_twice (enter vs bs) f)
form_twice bs (exists vs f) = ap (exists vs) (form_twice (enter vs bs) f)

variable_kept : (g : Sig) (s : Sort) (o : Option Binder) (x : List ℕ) → IsTidyVariable g s x → IsTidyVariable g (sort_under s o) x
variable_kept g Msg None x h = h
variable_kept g Msg (Some (Time n)) x h = h
variable_kept g Msg (Some (Message b)) x h = by_sort b.sort
  where
    by_sort : (s : Sort) → IsTidyVariable g s x
    by_sort Msg = h
    by_sort Fresh = tt
    by_sort Pub = tt
variable_kept g Fresh o x h = tt
variable_kept g Pub o x h = tt

use_kept : (g : Sig) (bs : List Binder) (f : List ℕ) (ts : Trees) → IsTidyUse g f ts → IsTidyUse g f (instances (by_plain_binder bs) ts)
use_kept g bs f none h = h
use_kept g bs f (more t ts) h = h

mutual
  tidy_kept : (g : Sig) (bs : List Binder) (t : Tree) → IsTidy g t → IsTidy g (instance (by_plain_binder bs) t)
  tidy_kept g bs (variable v) h = variable_kept g v.sort (find_binder bs v.name) v.name h
  tidy_kept g bs (public n) h = h
  tidy_kept g bs (fresh i) h = h
  tidy_kept g bs (apply f ts) h = (use_kept g bs f ts h.0, all_kept g bs ts h.1)

  all_kept : (g : Sig) (bs : List Binder) (ts : Trees) → AreTidy g ts → AreTidy g (instances (by_plain_binder bs) ts)
  all_kept g bs none h = h
  all_kept g bs (more t ts) h = (tidy_kept g bs t h.0, all_kept g bs ts h.1)

truth_kept : (bs : List Binder) (t : Tree) → is_written_as_truth t ≡ false → is_written_as_truth (instance (by_plain_binder bs) t) ≡ false
truth_kept bs (variable v) h = by_binder v.sort (find_binder bs v.name) v.name h
  where
    by_sort : (s : Sort) (x : List ℕ) → is_truth_name x ≡ false → is_written_as_truth (sorted s x) ≡ false
    by_sort Msg x h = h
    by_sort Fresh x h = refl
    by_sort Pub x h = refl

    by_binder : (s : Sort) (o : Option Binder) (x : List ℕ) → is_written_as_truth (sorted s x) ≡ false → is_written_as_truth (sorted (sort_under s o) x) ≡ false
    by_binder Msg None x h = h
    by_binder Msg (Some (Time n)) x h = h
    by_binder Msg (Some (Message b)) x h = by_sort b.sort x h
    by_binder Fresh o x h = refl
    by_binder Pub o x h = refl
truth_kept bs (public n) h = h
truth_kept bs (fresh i) h = h
truth_kept bs (apply f none) h = h
truth_kept bs (apply f (more t ts)) h = h

pub form_kept : (g : Sig) (bs : List Binder) (f : Form) → IsTidyForm g f → IsTidyForm g (plainly_sorted bs f)
form_kept g bs truth h = h
form_kept g bs falsity h = h
form_kept g bs (action f i) h =
    (h.0, (h.1.0, subst (λ (ts : Trees). AreTidy g ts) (sym (trees_of_instances bs f.args)) (all_kept g bs (trees_of f.args) h.1.1)))
form_kept g bs (equal t u) h = (truth_kept bs t h.0, tidy_kept g bs t h.1, tidy_kept g bs u h.2)
form_kept g bs (same_time i j) h = h
form_kept g bs (earlier i j) h = h
form_kept g bs (negation f) h = form_kept g bs f h
form_kept g bs (both f k) h = (form_kept g bs f h.0, form_kept g bs k h.1)
form_kept g bs (either f k) h = (form_kept g bs f h.0, form_kept g bs k h.1)
form_kept g bs (implies f k) h = (form_kept g bs f h.0, form_kept g bs k h.1)
form_kept g bs (equivalent f k) h = (form_kept g bs f h.0, form_kept g bs k h.1)
form_kept g bs (every vs f) h = (h.0, form_kept g (enter vs bs) f h.1)
form_kept g bs (exists vs f) h = (h.0, form_kept g (enter vs bs) f h.1)

-- Sorts change neither symbols nor names.
same_number : (bs : List Binder) (ts : Trees) → length (list_of (instances (by_plain_binder bs) ts)) ≡ length (list_of ts)
same_number bs none = refl
same_number bs (more t ts) = let rest = same_number bs ts in omega (arith, rest)

mutual
  over_before : (g : Sig) (bs : List Binder) (t : Tree) → IsOver g (instance (by_plain_binder bs) t) → IsOver g t
  over_before g bs (variable v) h = tt
  over_before g bs (public n) h = tt
  over_before g bs (fresh i) h = tt
  over_before g bs (apply f ts) h = (subst (λ (n : ℕ). arity_of g f ≡ Some n) (same_number bs ts) h.0, all_over_before g bs ts h.1)

  all_over_before : (g : Sig) (bs : List Binder) (ts : Trees) → AreOver g (instances (by_plain_binder bs) ts) → AreOver g ts
  all_over_before g bs none h = tt
  all_over_before g bs (more t ts) h = (over_before g bs t h.0, all_over_before g bs ts h.1)

pub form_over_before : (g : Sig) (bs : List Binder) (f : Form) → IsFormOver g (plainly_sorted bs f) → IsFormOver g f
form_over_before g bs truth h = tt
form_over_before g bs falsity h = tt
form_over_before g bs (action f i) h = all_over_before g bs (trees_of f.args) (subst (λ (ts : Trees). AreOver g ts) (trees_of_instances bs f.args) h)
form_over_before g bs (equal t u) h = (over_before g bs t h.0, over_before g bs u h.1)
form_over_before g bs (same_time i j) h = tt
form_over_before g bs (earlier i j) h = tt
form_over_before g bs (negation f) h = form_over_before g bs f h
form_over_before g bs (both f k) h = (form_over_before g bs f h.0, form_over_before g bs k h.1)
form_over_before g bs (either f k) h = (form_over_before g bs f h.0, form_over_before g bs k h.1)
form_over_before g bs (implies f k) h = (form_over_before g bs f h.0, form_over_before g bs k h.1)
form_over_before g bs (equivalent f k) h = (form_over_before g bs f h.0, form_over_before g bs k h.1)
form_over_before g bs (every vs f) h = form_over_before g (enter vs bs) f h
form_over_before g bs (exists vs f) h = form_over_before g (enter vs bs) f h

pair_kept : (bs : List Binder) (f : List ℕ) (ts : Trees) → is_pair f (instances (by_plain_binder bs) ts) ≡ is_pair f ts
pair_kept bs f none = refl
pair_kept bs f (more t none) = refl
pair_kept bs f (more t (more u none)) = refl
pair_kept bs f (more t (more u (more w ts))) = refl

mutual
  names_kept : (most : ℕ) (bs : List Binder) (t : Tree) → HasNames most t → HasNames most (instance (by_plain_binder bs) t)
  names_kept most bs (variable v) h = h
  names_kept most bs (public n) h = h
  names_kept most bs (fresh i) h = h
  names_kept most bs (apply f ts) h = ((λ e. h.0 (sym (pair_kept bs f ts) ∙ e)), all_names_kept most bs ts h.1)

  all_names_kept : (most : ℕ) (bs : List Binder) (ts : Trees) → HaveNames most ts → HaveNames most (instances (by_plain_binder bs) ts)
  all_names_kept most bs none h = h
  all_names_kept most bs (more t ts) h = (names_kept most bs t h.0, all_names_kept most bs ts h.1)

pub form_names_kept : (most : ℕ) (bs : List Binder) (f : Form) → FormHasNames most f → FormHasNames most (plainly_sorted bs f)
form_names_kept most bs truth h = h
form_names_kept most bs falsity h = h
form_names_kept most bs (action f i) h =
    ((h.0.0, subst (λ (ts : Trees). HaveNames most ts) (sym (trees_of_instances bs f.args)) (all_names_kept most bs (trees_of f.args) h.0.1)), h.1)
form_names_kept most bs (equal t u) h = (names_kept most bs t h.0, names_kept most bs u h.1)
form_names_kept most bs (same_time i j) h = h
form_names_kept most bs (earlier i j) h = h
form_names_kept most bs (negation f) h = form_names_kept most bs f h
form_names_kept most bs (both f k) h = (form_names_kept most bs f h.0, form_names_kept most bs k h.1)
form_names_kept most bs (either f k) h = (form_names_kept most bs f h.0, form_names_kept most bs k h.1)
form_names_kept most bs (implies f k) h = (form_names_kept most bs f h.0, form_names_kept most bs k h.1)
form_names_kept most bs (equivalent f k) h = (form_names_kept most bs f h.0, form_names_kept most bs k h.1)
form_names_kept most bs (every vs f) h = (h.0, form_names_kept most (enter vs bs) f h.1)
form_names_kept most bs (exists vs f) h = (h.0, form_names_kept most (enter vs bs) f h.1)
