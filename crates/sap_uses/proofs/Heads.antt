-- What is met at each form.
use Rattle.std.proofs.Common.{◌≡◌, ◌<◌, ◌≤◌, ℕ, ◌+◌, false, List, [], ◌∷◌, Some, length, refl, sym, ap, ◌∙◌, subst, arith}
use Rattle.std.specs.Prelude.{if◌then◌else◌}
use Rattle.sap_process.specs.Action.{Action}
use Rattle.sap_terms.specs.Tree.{Tree}
use Rattle.sap_terms.specs.declared.var.Var.{Var}
use Rattle.sap_terms.specs.Variables.{is_known}
use Rattle.sap_macro.specs.Ends.{ComesTo, IsEnd, here, through}
use Rattle.sap_macro.specs.Indexed.{IsDefined, defined}
use Rattle.sap_macro.specs.Order.{AreInOrder}
use Rattle.sap_uses.proofs.Resolving.{resolved, unknown}
use Rattle.sap_macro.specs.Written.{Written, nil, call, parallel, replicated, act, test, lookup, Definition}
use Rattle.sap_macro.specs.Sources.{written}
use Rattle.sap_macro.specs.declared.source.Source.{Source}
use Rattle.sap_uses.specs.code.Met.{IsBehind, IsMet, IsNothing, IsOne, IsReached, IsTwo, IsUse}
use Rattle.sap_uses.specs.declared.large.Reached.{Reached}
use Rattle.sap_uses.specs.declared.large.Reached.TheVariants.{Large, Body}
use Rattle.sap_uses.specs.declared.met.Met.{Met}
use Rattle.sap_uses.specs.declared.met.Met.TheVariants.{Nothing, Plain, Use, One, Two}
use Rattle.sap_macro.specs.Walked.{Cost, cost_of, steps, steps_in}
use Rattle.sap_uses.specs.code.Walks.{Heavy, Sizes, has_heavy, heavy, heavy_at, heavy_of, heavy_use, put_sizes, sizes_of, IsResolved}

positive : (c : Cost) (w : Written) → 0 < steps c w
positive c nil = omega arith
positive c (call f ts) = omega arith
positive c (parallel p q) = omega arith
positive c (replicated p) = omega arith
positive c (act a p) = omega arith
positive c (test t u p q) = omega arith
positive c (lookup t x p q) = omega arith

pub met_nil : (ds : List Definition) → IsNothing ds nil
unfolding heavy
met_nil ds = record { found = λ z. refl }

pub met_unknown : (ds : List Definition) (f : List ℕ) (ts : List Tree) → is_known (defined ds) f ≡ false → IsNothing ds (call f ts)
unfolding heavy
met_unknown ds f ts h = record { found = λ z. (unknown ds f h).found z ts }

pub met_replicated : (ds : List Definition) (p : Written) → IsOne ds (replicated p) p
unfolding heavy steps_in
met_replicated ds p = record { found = λ z. refl; further = omega arith }

pub met_act : (ds : List Definition) (a : Action) (p : Written) → IsOne ds (act a p) p
unfolding heavy steps_in
met_act ds a p = record { found = λ z. refl; further = omega arith }

pub met_parallel : (ds : List Definition) (p q : Written) → IsTwo ds (parallel p q) p q
unfolding heavy steps_in
met_parallel ds p q =
    record { found = λ z. refl; first = omega arith; second = omega arith }

pub met_test : (ds : List Definition) (t u : Tree) (p q : Written) → IsTwo ds (test t u p q) p q
unfolding heavy steps_in
met_test ds t u p q =
    record { found = λ z. refl; first = omega arith; second = omega arith }

pub met_lookup : (ds : List Definition) (t : Tree) (x : Var) (p q : Written) → IsTwo ds (lookup t x p q) p q
unfolding heavy steps_in
met_lookup ds t x p q =
    record { found = λ z. refl; first = omega arith; second = omega arith }

pub ruleset head_laws = (met_nil, met_unknown, met_replicated, met_act, met_parallel, met_test, met_lookup)

no_params : (xs : List (List ℕ)) → length xs ≡ 0 → xs ≡ []
no_params [] h = refl
no_params (x ∷ xs) h = absurd (omega (arith, h))

some_params : (m : Heavy) (d : Definition) (xs : List (List ℕ)) (z : Sizes) (ts : List Tree) → ¬ (length xs ≡ 0) → heavy_at m d xs z ts ≡ heavy_use m d z ts
some_params m d [] z ts h = absurd (h refl)
some_params m d (x ∷ xs) z ts h = refl

-- at a use of a definition without parameters, and of one with some
pub met_plain : (ds : List Definition) (d : Definition) (f : List ℕ) (ts : List Tree) → IsResolved ds d → d.name ≡ f → length d.params ≡ 0 → IsOne ds (call f ts) d.body
unfolding heavy steps_in
met_plain ds d f ts r name none =
    let same = r.cost in
    record {
      found = λ z. ap (λ n. heavy_of ds z n ts) (sym name) ∙ r.found z ts ∙ ap (λ xs. heavy_at (heavy_of ds) d xs z ts) (no_params d.params none);
      further = subst (λ n. steps (cost_of ds) d.body < cost_of ds n + 1) name (omega (arith, same));
    }

pub met_use : (ds : List Definition) (d : Definition) (f : List ℕ) (ts : List Tree) → IsResolved ds d → d.name ≡ f → ¬ (length d.params ≡ 0) → IsUse ds (call f ts) d ts
unfolding heavy steps_in
met_use ds d f ts r name some =
    let same = r.cost in
    record {
      found = λ z. ap (λ n. heavy_of ds z n ts) (sym name) ∙ r.found z ts ∙ some_params (heavy_of ds) d d.params z ts some;
      further = subst (λ n. steps (cost_of ds) d.body < cost_of ds n + 1) name (omega (arith, same));
    }

-- ---- behind a chain of names without parameters

-- what is found there is found at its end, in no more steps
pub record IsFoundAt (ds : List Definition) (w p : Written) : Type 0 where
  pub found : (z : Sizes) → heavy ds z w ≡ heavy ds z p
  pub further : steps_in ds p ≤ steps_in ds w

comes_found : (ds : List Definition) (w p : Written) → AreInOrder [] ds → ComesTo ds w p → IsFoundAt ds w p
comes_found ds _ _ order (here {w = w}) = record { found = λ z. refl; further = omega arith }
comes_found ds _ p order (through {f = f} {d = d} ts is none more) =
    let behind = comes_found ds d.body p order more in
    let first = met_plain ds d f ts (resolved ds f d order is) is.name_is (ap length none) in
    let most = behind.further in
    let less = first.further in
    record { found = λ z. first.found z ∙ behind.found z; further = omega (arith, most, less) }

-- at a use of a definition without parameters
pub met_end : (ds : List Definition) (d : Definition) (f : List ℕ) (ts : List Tree) (p : Written) → AreInOrder [] ds → IsDefined ds f d → IsEnd ds d.body p → length d.params ≡ 0
    → IsOne ds (call f ts) p
met_end ds d f ts p order is end none =
    let behind = comes_found ds d.body p order end.comes in
    let first = met_plain ds d f ts (resolved ds f d order is) is.name_is none in
    let most = behind.further in
    let less = first.further in
    record { found = λ z. first.found z ∙ behind.found z; further = omega (arith, most, less) }

-- ---- how far a walk goes from what is met, and from where it comes

abbrev pub steps_met : List Definition → Met → ℕ
steps_met ds (Plain p) = steps_in ds (written p.now)
steps_met ds m = 0

abbrev pub steps_reached : List Definition → Reached → ℕ
steps_reached ds (Large n) = 0
steps_reached ds (Body sizes p) = steps_in ds (written p.now)

pub met_smaller : (ds : List Definition) (body : Source) (m : Met) → IsMet ds m (written body) → steps_met ds m < steps_in ds (written body)
unfolding steps_in
met_smaller ds body Nothing h = positive (cost_of ds) (written body)
met_smaller ds body (Plain p) h = h.further
met_smaller ds body (Use d ts) h = positive (cost_of ds) (written body)
met_smaller ds body (One p) h = positive (cost_of ds) (written body)
met_smaller ds body (Two p q) h = positive (cost_of ds) (written body)

-- ---- through uses

pub behind_is : (ds : List Definition) (z inner : Sizes) (d : Definition) (ts : List Tree) → has_heavy z ts ≡ false → inner ≡ put_sizes d.params (sizes_of z ts)
    → IsBehind ds z d ts inner d.body
behind_is ds z inner d ts small same = record {
  found = ap (λ b. if b then Some d.name else heavy ds (put_sizes d.params (sizes_of z ts)) d.body) small ∙ sym (ap (λ y. heavy ds y d.body) same);
  further = omega arith;
}

pub reached_smaller : (ds : List Definition) (z : Sizes) (d : Definition) (ts : List Tree) (w : Written) (r : Reached) → IsUse ds w d ts → IsReached ds z d ts r
    → steps_reached ds r < steps_in ds w
unfolding steps_in
reached_smaller ds z d ts w (Large n) u h = positive (cost_of ds) w
reached_smaller ds z d ts w (Body sizes p) u h =
    let less = u.further in
    let most = h.further in
    omega (arith, less, most)

pub reached_on : (ds : List Definition) (z : Sizes) (d : Definition) (ts : List Tree) (inner : Sizes) (w : Written) (e : Definition) (us : List Tree) (r : Reached)
    → IsBehind ds z d ts inner w → IsUse ds w e us → IsReached ds inner e us r → IsReached ds z d ts r
reached_on ds z d ts inner w e us (Large n) b u h = b.found ∙ u.found inner ∙ h
reached_on ds z d ts inner w e us (Body sizes p) b u h =
    let first = b.further in
    let less = u.further in
    let most = h.further in
    record { found = b.found ∙ u.found inner ∙ h.found; further = omega (arith, first, less, most) }
