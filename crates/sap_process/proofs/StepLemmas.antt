-- Names and pairs are normal, what the adversary can give, and that 'a' and 'b' differ under each theory.
use Rattle.std.proofs.Common.{◌≡◌, ◌<◌, ℕ, zero, suc, List, [], ◌∷◌, Bool, true, false, ◌||◌, Option, None, refl, sym, ap, ◌∙◌, inl, inr, lit<, arith}
use Rattle.std.specs.Prelude.{Contains, slice_index_or, if◌then◌else◌}
use Rattle.std.specs.List.{AllZip}
use Rattle.std.specs.Str.{bytes_eq}
use Rattle.std.proofs.Math.Path.{fun_ext}
use Rattle.std.proofs.lemmas.Bool.{cases_Bool}
use Rattle.sap_rewrite.specs.Laws.{FormIsOne}
use Rattle.sap_terms.specs.AdversaryFacts.{linear}
use Rattle.sap_terms.specs.Choice.{Choice}
use Rattle.sap_terms.specs.Deduce.{IsDeducible, a_public, given, applied}
use Rattle.sap_terms.specs.Equal.{IsStep, IsStepWithin, IsTheoryEqual, same, next, forward, backward, inside, here, later}
use Rattle.sap_terms.specs.Message.{IsMessage, IsMessageChoice}
use Rattle.sap_terms.specs.Modulo.{IsFormOfFact}
use Rattle.sap_terms.specs.Normal.{IsNoLeftSide, IsNormal, IsNormalForm}
use Rattle.sap_terms.specs.Same.{same_tree}
use Rattle.sap_terms.specs.Signature.{Sig, pairs_alone}
use Rattle.sap_terms.specs.Equations.{Equations, equations, IsInstance, first, second, symmetric, asymmetric, signing, revealing, revealed, app0, fst_name, snd_name, sdec_name, adec_name, verify_name, reveal_verify_name, get_message_name, true_name, pair_name}
use Rattle.sap_terms.specs.Tree.{Tree, variable, public, fresh, apply, Trees, none, more}
use Rattle.sap_terms.specs.declared.fact.Fact.{Fact}
use Rattle.sap_terms.specs.declared.var.Sort.{Sort}
use Rattle.sap_terms.specs.declared.var.Sort.TheVariants.{Msg, Fresh, Pub}
use Rattle.sap_process.specs.Configuration.{Config, CanGive}
use Rattle.sap_process.specs.StepExamples.{a, b, pair, first_of_pair, only, just}

-- the symbol at the root heads some left side
abbrev heads_left_side : Tree → Bool
heads_left_side (apply f ts) =
    bytes_eq f fst_name || bytes_eq f snd_name || bytes_eq f sdec_name || bytes_eq f adec_name || bytes_eq f verify_name || bytes_eq f reveal_verify_name || bytes_eq f get_message_name
heads_left_side t = false

left_sides : (e : Equations) (t r : Tree) → IsInstance e t r → heads_left_side t ≡ true
left_sides e t r first = refl
left_sides e t r second = refl
left_sides e t r (symmetric s) = refl
left_sides e t r (asymmetric s) = refl
left_sides e t r (signing s) = refl
left_sides e t r (revealing s) = refl
left_sides e t r (revealed s) = refl

pub no_left_side : (e : Equations) (t : Tree) → heads_left_side t ≡ false → IsNoLeftSide e t
no_left_side e t h r i = let s = left_sides e t r i in cc

pub public_normal : (e : Equations) (n : List ℕ) → IsNormal e (public n)
public_normal e n = no_left_side e (public n) refl

pub fresh_normal : (e : Equations) (k : ℕ) → IsNormal e (fresh k)
fresh_normal e k = no_left_side e (fresh k) refl

pub pair_normal : (e : Equations) (n m : List ℕ) → IsNormal e (pair (public n) (public m))
pair_normal e n m = (no_left_side e (pair (public n) (public m)) refl, (public_normal e n, (public_normal e m, tt)))

-- a public name is its own normal form
pub own_form : (e : Equations) (n : List ℕ) → IsNormalForm e (public n) (public n)
own_form e n = record { equal = same; normal = public_normal e n }

pub first_form : (e : Equations) → IsNormalForm e first_of_pair a
first_form e = record { equal = next (forward first) same; normal = public_normal e _ }

-- each variable stands for a name: `~x` for a fresh one
abbrev pub name_for : Sort → Tree
name_for Msg = a
name_for Fresh = fresh 0
name_for Pub = a

abbrev pub names : Choice
names v = name_for v.sort

name_message : (g : Sig) (s : Sort) → IsMessage g s (name_for s)
name_message g Msg = record { ground = tt; over = tt; normal = public_normal (equations g) _; sorted = refl }
name_message g Fresh = record { ground = tt; over = tt; normal = fresh_normal (equations g) 0; sorted = refl }
name_message g Pub = record { ground = tt; over = tt; normal = public_normal (equations g) _; sorted = refl }

pub names_messages : (g : Sig) → IsMessageChoice g names
names_messages g v = name_message g v.sort

pub gives_public : (g : Sig) (d : Config) (n : List ℕ) → CanGive g d (public n)
gives_public g d n = record {
  deducible = record { form = public n; is_form = own_form (equations g) n; earlier = []; derivation = (a_public n refl, tt) };
  normal = public_normal (equations g) n;
}

either : (t u : Tree) (k : ℕ) (d : Tree)
    → slice_index_or (t ∷ u ∷ []) k (slice_index_or (t ∷ u ∷ []) k d) ≡ slice_index_or (t ∷ u ∷ []) k d
either t u zero d = refl
either t u (suc zero) d = refl
either t u (suc (suc k)) d = refl

pub gives_pair : (d : Config) (n m : List ℕ) → CanGive pairs_alone d (pair (public n) (public m))
gives_pair d n m =
    let t : Tree = pair (public n) (public m) in
    let form : IsNormalForm (equations pairs_alone) t t = record { equal = same; normal = pair_normal (equations pairs_alone) n m } in
    record {
      deducible = record {
        form = t;
        is_form = form;
        earlier = public n ∷ public m ∷ [];
        derivation = (
          applied pair_name (public n ∷ public m ∷ []) refl refl (λ k d h. (k, h, either (public n) (public m) k d)) form,
          (a_public n refl, (a_public m refl, tt)),
        );
      };
      normal = form.normal;
    }

-- a name that was sent can be deduced
pub sent_deducible : (g : Sig) (own : List ℕ) (k : ℕ) → IsDeducible g own (fresh k ∷ []) (fresh k)
sent_deducible g own k = record {
  form = fresh k;
  is_form = record { equal = same; normal = fresh_normal (equations g) k };
  earlier = [];
  derivation = (given (0, lit< tt, refl), tt);
}

pub none_has : (n : ℕ) → ¬ Contains [] n
none_has n h = let p : h.0 < 0 = h.1 in omega arith

alone_at : (m n k : ℕ) → k < 1 → slice_index_or (m ∷ []) k n ≡ n → m ≡ n
alone_at m n zero h e = e
alone_at m n (suc k) h e = omega arith

-- a list of one name has no other name
pub no_other : (m n : ℕ) → ¬ (m ≡ n) → ¬ Contains (m ∷ []) n
no_other m n other h = other (alone_at m n h.0 h.1 h.2)

-- The value of a tree in a model of all equations: `fst`, `sdec`, `adec` and `getMessage` take the first part of their argument,
-- `snd` its second part, and `verify` and `revealVerify` hold always.
abbrev pub parts : Trees → Trees
parts (more (apply f ts) us) = ts
parts ts = none

abbrev pub head_part : Trees → Tree
head_part (more t ts) = t
head_part none = app0 true_name

abbrev pub second_part : Trees → Tree
second_part (more t ts) = head_part ts
second_part none = app0 true_name

abbrev pub takes_first : List ℕ → Bool
takes_first f = bytes_eq f fst_name || bytes_eq f sdec_name || bytes_eq f adec_name || bytes_eq f get_message_name

abbrev pub value_of : List ℕ → Trees → Tree
value_of f ts =
    if takes_first f then head_part (parts ts)
    else if bytes_eq f snd_name then second_part (parts ts)
    else if bytes_eq f verify_name || bytes_eq f reveal_verify_name then app0 true_name
    else apply f ts

abbrev mutual
  pub value : Tree → Tree
  value (variable v) = variable v
  value (public n) = public n
  value (fresh k) = fresh k
  value (apply f ts) = value_of f (values ts)

  pub values : Trees → Trees
  values none = none
  values (more t ts) = more (value t) (values ts)

value_left : (e : Equations) (t r : Tree) → IsInstance e t r → value t ≡ value r
value_left e t r first = refl
value_left e t r second = refl
value_left e t r (symmetric s) = refl
value_left e t r (asymmetric s) = refl
value_left e t r (signing s) = refl
value_left e t r (revealing s) = refl
value_left e t r (revealed s) = refl

mutual
  value_step : {e : Equations} {t u : Tree} → IsStep e t u → value t ≡ value u
  value_step {e} {t} {u} (forward i) = value_left e t u i
  value_step {e} {t} {u} (backward i) = sym (value_left e u t i)
  value_step (inside {f} h) = ap (value_of f) (values_step h)

  values_step : {e : Equations} {ts us : Trees} → IsStepWithin e ts us → values ts ≡ values us
  values_step (here {ts = ts} h) = ap (λ v. more v (values ts)) (value_step h)
  values_step (later {t} h) = ap (more (value t)) (values_step h)

pub value_equal : {e : Equations} {t u : Tree} → IsTheoryEqual e t u → value t ≡ value u
value_equal same = refl
value_equal (next s h) = value_step s ∙ value_equal h

abbrev is_b : Tree → Bool
is_b t = same_tree t b

pub a_differs : (e : Equations) → ¬ IsTheoryEqual e a b
a_differs e h = let p : false ≡ true = ap is_b (value_equal h) in cc

-- the store without what it alone had has nothing
pub emptied : (k v : Tree) → ◌≡◌ {A = Tree → Option Tree} (λ y. if same_tree k y then None else only k v y) (λ y. None)
emptied k v = fun_ext (λ y. elim (cases_Bool (same_tree k y)) [ inl at_it ↦ rw at_it refl | inr other ↦ rw other refl ])

-- nothing is held once what alone was held isn't
pub released : (k : Tree) → ◌≡◌ {A = Tree → Bool} (λ y. if same_tree k y then false else just k y) (λ y. false)
released k = fun_ext (λ y. elim (cases_Bool (same_tree k y)) [ inl at_it ↦ rw at_it refl | inr other ↦ rw other refl ])

-- nothing is held once what wasn't held isn't
pub freed : (k : Tree) → ◌≡◌ {A = Tree → Bool} (λ y. if same_tree k y then false else false) (λ y. false)
freed k = fun_ext (λ y. elim (cases_Bool (same_tree k y)) [ inl at_it ↦ rw at_it refl | inr other ↦ rw other refl ])

-- a fact of one argument has one form, where the argument has
pub one_form : FormIsOne → (g : Sig) (name : List ℕ) (t u : Tree) (h : Fact) → IsNormalForm (equations g) t u → IsFormOfFact (equations g) (linear name (t ∷ [])) h
    → h ≡ linear name (u ∷ [])
one_form one g name t u h form is =
    ap (λ (n : List ℕ). let f : Fact = record { name = n; persistent = h.persistent; args = h.args } in f) is.name
    ∙ ap (λ (p : Bool). let f : Fact = record { name = name; persistent = p; args = h.args } in f) is.persistent
    ∙ ap (λ (ts : List Tree). let f : Fact = record { name = name; persistent = false; args = ts } in f) (args h.args is.args)
  where
    args : (us : List Tree) → AllZip (IsNormalForm (equations g)) (t ∷ []) us → us ≡ u ∷ []
    args [] e = absurd e
    args (w ∷ []) e = ap (λ v. v ∷ []) (one (equations g) t w u e.0 form)
    args (w ∷ v ∷ us) e = absurd e.1
