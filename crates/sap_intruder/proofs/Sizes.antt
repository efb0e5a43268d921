-- A normal form has at most as many nodes as the term, and no other names, and so it is with a subterm.
use Rattle.std.proofs.Common.{◌≤◌, ℕ, Bool, List, [], ◌∷◌, subst, arith, ◌⊎◌, inl, inr}
use Rattle.std.specs.Prelude.{All}
use Rattle.std.specs.List.{AllZip}
use Rattle.std.proofs.lemmas.List.Elements.{All-nil, All-cons}
use Rattle.sap_terms.specs.Equal.{IsTheoryEqual, same}
use Rattle.sap_terms.specs.Equations.{Equations, IsInstance, first, second, symmetric, asymmetric, signing, revealing, revealed}
use Rattle.sap_terms.specs.Laws.{LeavesAreNormal}
use Rattle.sap_terms.specs.Normal.{IsNormal, IsNoLeftSide, IsNormalForm}
use Rattle.sap_terms.specs.Tree.{Tree, variable, public, fresh, apply, Trees, none, more, trees_of, list_of, trees_of-list_of, node_count, trees_count}
use Rattle.sap_rewrite.specs.Laws.{EqualityIsKept, FormIsOne, SymbolsReduceOnce}
use Rattle.sap_derive.specs.Near.{IsAmong, first_one, other, IsSubterm, whole, within}
use Rattle.sap_lines.specs.NamesPass.{NamesPass, AllNamesPass}

-- what an equation leaves
right_small : (e : Equations) (l r : Tree) → IsInstance e l r → node_count r ≤ node_count l
right_small e _ _ (first {x} {y}) = omega arith
right_small e _ _ (second {x} {y}) = omega arith
right_small e _ _ (symmetric {m} {k} on) = omega arith
right_small e _ _ (asymmetric {m} {k} on) = omega arith
right_small e _ _ (signing {m} {k} on) = omega arith
right_small e _ _ (revealing {m} {k} on) = omega arith
right_small e _ _ (revealed {m} {k} on) = omega arith

right_passes : (e : Equations) (l r : Tree) → IsInstance e l r → (test : Tree → Bool) → NamesPass test l → NamesPass test r
right_passes e _ _ first test h = h.0.0
right_passes e _ _ second test h = h.0.1.0
right_passes e _ _ (symmetric on) test h = h.0.0
right_passes e _ _ (asymmetric on) test h = h.0.0
right_passes e _ _ (signing on) test h = tt
right_passes e _ _ (revealing on) test h = tt
right_passes e _ _ (revealed on) test h = h.0.0

-- a normal form with at most as many nodes, and no other names
record SmallForm (e : Equations) (t : Tree) : Type 0 where
  form : Tree
  is_form : IsNormalForm e t form
  small : node_count form ≤ node_count t
  names : (test : Tree → Bool) → NamesPass test t → NamesPass test form

record SmallForms (e : Equations) (ts : Trees) : Type 0 where
  forms : List Tree
  equal : AllZip (IsTheoryEqual e) (list_of ts) forms
  normal : All (IsNormal e) forms
  small : trees_count (trees_of forms) ≤ trees_count ts
  names : (test : Tree → Bool) → AllNamesPass test ts → AllNamesPass test (trees_of forms)

module _ (kept : EqualityIsKept) (once : SymbolsReduceOnce) (leaves : LeavesAreNormal) (e : Equations) where
  itself_form : (t : Tree) → IsNormal e t → SmallForm e t
  itself_form t n = record { form = t; is_form = record { equal = same; normal = n }; small = omega arith; names = λ test h. h }

  reduced : (f : List ℕ) (ns : List Tree) → All (IsNormal e) ns → ((r : Tree) × IsInstance e (apply f (trees_of ns)) r) ⊎ IsNoLeftSide e (apply f (trees_of ns)) → SmallForm e (apply f (trees_of ns))
  reduced f ns normal (inl r) = record {
    form = r.0;
    is_form = once.right_side_is_form e f (trees_of ns) r.0 (once.of_lists e ns normal) r.1;
    small = right_small e (apply f (trees_of ns)) r.0 r.1;
    names = right_passes e (apply f (trees_of ns)) r.0 r.1;
  }
  reduced f ns normal (inr own) =
      record { form = apply f (trees_of ns); is_form = once.own_form e f (trees_of ns) (once.of_lists e ns normal) own; small = omega arith; names = λ test h. h }

  of_symbol : (f : List ℕ) (ts : Trees) → SmallForms e ts → SmallForm e (apply f ts)
  of_symbol f ts h =
      let r = reduced f h.forms h.normal (once.side e f (trees_of h.forms)) in
      let args : IsTheoryEqual e (apply f ts) (apply f (trees_of h.forms)) =
      subst (λ (us : Trees). IsTheoryEqual e (apply f us) (apply f (trees_of h.forms))) (trees_of-list_of ts) (kept.under_symbols e f (list_of ts) h.forms h.equal) in
      let below = h.small in
      let mine = r.small in
      record {
        form = r.form;
        is_form = record { equal = kept.onwards e (apply f ts) (apply f (trees_of h.forms)) r.form args r.is_form.equal; normal = r.is_form.normal };
        small = omega (arith, below, mine);
        names = λ test pass. r.names test (h.names test pass);
      }

  of_more : (t : Tree) (ts : Trees) → SmallForm e t → SmallForms e ts → SmallForms e (more t ts)
  of_more t ts h k =
      let a = h.small in
      let b = k.small in
      record {
        forms = h.form ∷ k.forms;
        equal = (h.is_form.equal, k.equal);
        normal = All-cons (IsNormal e) h.form k.forms h.is_form.normal k.normal;
        small = omega (arith, a, b);
        names = λ test pass. (h.names test pass.0, k.names test pass.1);
      }

  mutual
    form_of : (t : Tree) → SmallForm e t
    form_of (variable v) = itself_form (variable v) (leaves.of_variable e v)
    form_of (public n) = itself_form (public n) (leaves.of_public_name e n)
    form_of (fresh k) = itself_form (fresh k) (leaves.of_fresh_name e k)
    form_of (apply f ts) = of_symbol f ts (forms_of ts)

    forms_of : (ts : Trees) → SmallForms e ts
    forms_of none = record { forms = []; equal = tt; normal = All-nil (IsNormal e); small = omega arith; names = λ test h. tt }
    forms_of (more t ts) = of_more t ts (form_of t) (forms_of ts)

  pub forms_small : FormIsOne → (t n : Tree) → IsNormalForm e t n → node_count n ≤ node_count t
  forms_small one t n h = let f = form_of t in subst (λ (u : Tree). node_count u ≤ node_count t) (one e t f.form n f.is_form h) f.small

  pub forms_pass : FormIsOne → (test : Tree → Bool) (t n : Tree) → NamesPass test t → IsNormalForm e t n → NamesPass test n
  forms_pass one test t n h is = let f = form_of t in subst (NamesPass test) (one e t f.form n f.is_form is) (f.names test h)

among_small : (u : Tree) (ts : Trees) → IsAmong u ts → node_count u ≤ trees_count ts
among_small u _ (first_one {ts}) = omega arith
among_small u _ (other {u = v} {ts = ts} i) = let h = among_small u ts i in omega (arith, h)

pub subterm_small : (t u : Tree) → IsSubterm t u → node_count t ≤ node_count u
subterm_small t _ whole = omega arith
subterm_small t _ (within {f = f} {ts = ts} {u = u} i s) = let a = among_small u ts i in let b = subterm_small t u s in omega (arith, a, b)

among_passes : (test : Tree → Bool) (u : Tree) (ts : Trees) → IsAmong u ts → AllNamesPass test ts → NamesPass test u
among_passes test u _ first_one h = h.0
among_passes test u _ (other {ts = ts} i) h = among_passes test u ts i h.1

pub subterm_passes : (test : Tree → Bool) (t u : Tree) → IsSubterm t u → NamesPass test u → NamesPass test t
subterm_passes test t _ whole h = h
subterm_passes test t _ (within {f = f} {ts = ts} {u = u} i s) h = subterm_passes test t u s (among_passes test u ts i h)
