-- Choices that are found part by part.
use Rattle.std.proofs.Common.{◌≡◌, ℕ, suc, ◌+◌, take, drop, List, [], ◌∷◌, ◌++◌, length, Option, Some, None, inl, inr, refl, sym, ap, subst, ◌∙◌, append_assoc}
use Rattle.std.specs.Prelude.{slice_get, Contains, Result, Ok, Err, IfOk, MatchOption}
use Rattle.std.proofs.lemmas.List.{append-nil, take-append-drop}
use Rattle.std.proofs.lemmas.List.Elements.{Contains-append_left, Contains-append_right, Contains-append_cases}
use Rattle.sap_terms.specs.Choice.{Choice}
use Rattle.sap_terms.specs.Signature.{Sig}
use Rattle.sap_terms.specs.Tree.{Tree, trees_of}
use Rattle.sap_terms.specs.declared.binding.Binding.{Binding}
use Rattle.sap_terms.specs.declared.fact.Fact.{Fact}
use Rattle.sap_terms.specs.declared.var.Var.{Var}
use Rattle.sap_rewrite.specs.Around.{FitsAround, outer_vars, all_outer_vars, IsOnlyFit, HasNoFit}
use Rattle.sap_rewrite.specs.Bound.{ExtensionsJoin}
use Rattle.sap_rewrite.specs.Match.{Extends, Agrees, HaveOneSort, bound_vars}
use Rattle.sap_sides.specs.Fitting.{facts_outer_vars, FactFits, IsOnlyChoice, HasNoChoice, ArgsFit, FactFit, FactsFit}
use Rattle.sap_terms.proofs.PlainLaws.Lists.{drop_got, take_got}
use Rattle.sap_sides.proofs.Lists.{drop_all, take_all, zip_at, zip_take, zip_split, zip_further}
use Rattle.sap_sides.specs.Laws.{FactsFitInTurn}

pub agrees_before : (b d : List Binding) (σ : Choice) → Agrees (b ++ d) σ → Agrees b σ
agrees_before [] d σ a = tt
agrees_before (e ∷ es) d σ a = (a.0, agrees_before es d σ a.1)

pub agrees_extended : (b c : List Binding) (vs : List Var) (σ : Choice) → Extends b vs c → Agrees c σ → Agrees b σ
agrees_extended b c vs σ x a = agrees_before b x.added σ (subst (λ d. Agrees d σ) x.is a)

-- fewer variables have one sort each
pub fewer_sorts : (vs ws : List Var) → ((v : Var) → Contains vs v → Contains ws v) → HaveOneSort ws → HaveOneSort vs
fewer_sorts vs ws h one v w i j e = one v w (h v i) (h w j) e

front_sorts : (bs us xs : List Var) → HaveOneSort (bs ++ (us ++ xs)) → HaveOneSort (bs ++ us)
front_sorts bs us xs one = fewer_sorts (bs ++ us) (bs ++ (us ++ xs)) (λ v m.
    elim (Contains-append_cases bs us v m) as (λ _. Contains (bs ++ (us ++ xs)) v) [
      | inl here ↦ Contains-append_left bs (us ++ xs) v here
      | inr later ↦ Contains-append_right bs (us ++ xs) v (Contains-append_left us xs v later)
    ]) one

back_sorts : ExtensionsJoin → (c d : List Binding) (us xs : List Var) → Extends c us d → HaveOneSort (bound_vars c ++ (us ++ xs)) → HaveOneSort (bound_vars d ++ xs)
back_sorts j c d us xs x one = fewer_sorts (bound_vars d ++ xs) (bound_vars c ++ (us ++ xs)) (λ v m.
    elim (Contains-append_cases (bound_vars d) xs v m) as (λ _. Contains (bound_vars c ++ (us ++ xs)) v) [
      | inl here ↦ elim (Contains-append_cases (bound_vars c) us v (j.bind_no_others c d us x v here)) as (λ _. Contains (bound_vars c ++ (us ++ xs)) v) [
        | inl before ↦ Contains-append_left (bound_vars c) (us ++ xs) v before
        | inr new ↦ Contains-append_right (bound_vars c) (us ++ xs) v (Contains-append_left us xs v new)
      ]
      | inr later ↦ Contains-append_right (bound_vars c) (us ++ xs) v (Contains-append_right us xs v later)
    ]) one

module _ (j : ExtensionsJoin) (P Q : Choice → Type 0) (us xs : List Var) (c d : List Binding) where
  abbrev Both : Choice → Type 0
  Both σ = P σ × Q σ

  both_found : (z : List Binding) → IsOnlyChoice P us c d → IsOnlyChoice Q xs d z → IsOnlyChoice Both (us ++ xs) c z
  both_found z p q = record {
    extends = j.in_turn c d z us xs p.extends q.extends;
    is = λ one σ a. (
      p.is (front_sorts (bound_vars c) us xs one) σ (agrees_extended d z xs σ q.extends a),
      q.is (back_sorts j c d us xs p.extends one) σ a,
    );
    only = λ one σ s a f. q.only (back_sorts j c d us xs p.extends one) σ s (p.only (front_sorts (bound_vars c) us xs one) σ s a f.0) f.1;
  }

  first_none : HasNoChoice P us c → HasNoChoice Both (us ++ xs) c
  first_none h = λ one σ s a f. h (front_sorts (bound_vars c) us xs one) σ s a f.0

  second_none : IsOnlyChoice P us c d → HasNoChoice Q xs d → HasNoChoice Both (us ++ xs) c
  second_none p h = λ one σ s a f. h (back_sorts j c d us xs p.extends one) σ s (p.only (front_sorts (bound_vars c) us xs one) σ s a f.0) f.1

-- what is found from c for G is found from b for F
pub record Continues (F G : Choice → Type 0) (vs ws : List Var) (b c : List Binding) : Type 0 where
  pub found : (d : List Binding) → IsOnlyChoice G ws c d → IsOnlyChoice F vs b d
  pub not_found : HasNoChoice G ws c → HasNoChoice F vs b

pub continues_itself : (F : Choice → Type 0) (vs : List Var) (b : List Binding) → Continues F F vs vs b b
continues_itself F vs b = record { found = λ d h. h; not_found = λ h. h }

pub continues_past : ExtensionsJoin → (F P Q : Choice → Type 0) (vs us xs : List Var) (b c d : List Binding) → Continues F (λ σ. P σ × Q σ) vs (us ++ xs) b c → IsOnlyChoice P us c d → Continues F Q vs xs b d
continues_past j F P Q vs us xs b c d k p = record {
  found = λ z q. k.found z (both_found j P Q us xs c d z p q);
  not_found = λ h. k.not_found (second_none j P Q us xs c d p h);
}

pub continues_not : ExtensionsJoin → (F P Q : Choice → Type 0) (vs us xs : List Var) (b c : List Binding) → Continues F (λ σ. P σ × Q σ) vs (us ++ xs) b c → HasNoChoice P us c → HasNoChoice F vs b
continues_not j F P Q vs us xs b c k h = k.not_found (first_none j P Q us xs c c h)

pub continues_end : ExtensionsJoin → (F G : Choice → Type 0) (vs : List Var) (b c : List Binding) → Continues F G vs [] b c → ((σ : Choice) → G σ) → IsOnlyChoice F vs b c
continues_end j F G vs b c k g = k.found c (record { extends = j.by_none c; is = λ one σ a. g σ; only = λ one σ s a f. a })

-- one argument
pub arg_found : (g : Sig) (p t : Tree) (b c : List Binding) → IsOnlyFit g p t b c → IsOnlyChoice (λ σ. FitsAround g σ p t) (outer_vars g p) b c
arg_found g p t b c h = record { extends = h.extends; is = h.fits; only = h.only }

pub fit_length : (g : Sig) (ps ts : List Tree) (σ : Choice) → ArgsFit g ps ts σ → length ps ≡ length ts
fit_length g [] [] σ h = refl
fit_length g [] (t ∷ ts) σ h = absurd h
fit_length g (p ∷ ps) [] σ h = absurd h
fit_length g (p ∷ ps) (t ∷ ts) σ h = ap suc (fit_length g ps ts σ h.1)

-- a fact, by its arguments
pub fact_found : {E : Type 0} (g : Sig) (f h : Fact) (vs : List Var) (b : List Binding) (r : Result (Option (List Binding)) E) → h.name ≡ f.name → h.persistent ≡ f.persistent → IfOk r (λ o. MatchOption o (HasNoChoice (ArgsFit g f.args h.args) vs b) (λ c. IsOnlyChoice (ArgsFit g f.args h.args) vs b c)) → IfOk r (λ o. MatchOption o (HasNoChoice (FactFit g f h) vs b) (λ c. IsOnlyChoice (FactFit g f h) vs b c))
fact_found g f h vs b (Err e) n p i = tt
fact_found g f h vs b (Ok None) n p i = λ one σ s a q. i one σ s a q.args
fact_found g f h vs b (Ok (Some c)) n p i = record {
  extends = i.extends;
  is = λ one σ a. record { name = n; persistent = p; args = i.is one σ a };
  only = λ one σ s a q. i.only one σ s a q.args;
}

module _ (g : Sig) (ps ts : List Tree) (b c : List Binding) (k : ℕ) (p t : Tree) (hp : slice_get ps k ≡ Some p) (ht : slice_get ts k ≡ Some t) where
  abbrev ArgsLeft : ℕ → List Binding → Type 0
  ArgsLeft n d =
      Continues (ArgsFit g ps ts) (ArgsFit g (drop n ps) (drop n ts)) (all_outer_vars g (trees_of ps)) (all_outer_vars g (trees_of (drop n ps))) b d

  abbrev OneAndLeft : Type 0
  OneAndLeft =
      Continues (ArgsFit g ps ts) (λ σ. FitsAround g σ p t × ArgsFit g (drop (k + 1) ps) (drop (k + 1) ts) σ) (all_outer_vars g (trees_of ps)) (outer_vars g p ++ all_outer_vars g (trees_of (drop (k + 1) ps))) b c

  args_opened : ArgsLeft k c → OneAndLeft
  args_opened h =
      let C : List Tree → List Tree → Type 0 = λ xs ys. Continues (ArgsFit g ps ts) (ArgsFit g xs ys) (all_outer_vars g (trees_of ps)) (all_outer_vars g (trees_of xs)) b c in
      subst (λ ys. C (p ∷ drop (k + 1) ps) ys) (drop_got ts k t ht) (subst (λ xs. C xs (drop k ts)) (drop_got ps k p hp) h)

  pub args_past : ExtensionsJoin → (d : List Binding) → ArgsLeft k c → IsOnlyFit g p t c d → ArgsLeft (k + 1) d
  args_past j d h f = continues_past j _ (λ σ. FitsAround g σ p t) (ArgsFit g (drop (k + 1) ps) (drop (k + 1) ts)) _ (outer_vars g p) _ b c d (args_opened h) (arg_found g p t c d f)

  pub args_not : ExtensionsJoin → ArgsLeft k c → HasNoFit g p t c → HasNoChoice (ArgsFit g ps ts) (all_outer_vars g (trees_of ps)) b
  args_not j h f = continues_not j _ (λ σ. FitsAround g σ p t) (ArgsFit g (drop (k + 1) ps) (drop (k + 1) ts)) _ (outer_vars g p) _ b c (args_opened h) f

pub args_end : ExtensionsJoin → (g : Sig) (ps ts : List Tree) (b c : List Binding) (k : ℕ) → k ≡ length ps → k ≡ length ts → Continues (ArgsFit g ps ts) (ArgsFit g (drop k ps) (drop k ts)) (all_outer_vars g (trees_of ps)) (all_outer_vars g (trees_of (drop k ps))) b c → IsOnlyChoice (ArgsFit g ps ts) (all_outer_vars g (trees_of ps)) b c
args_end j g ps ts b c k hp ht h =
    let C : List Tree → List Tree → Type 0 = λ xs ys. Continues (ArgsFit g ps ts) (ArgsFit g xs ys) (all_outer_vars g (trees_of ps)) (all_outer_vars g (trees_of xs)) b c in
    let ended = subst (λ ys. C [] ys) (drop_all ts k ht) (subst (λ xs. C xs (drop k ts)) (drop_all ps k hp) h) in
    continues_end j (ArgsFit g ps ts) (ArgsFit g [] []) (all_outer_vars g (trees_of ps)) b c ended (λ σ. tt)

-- what is the only choice for one thing is it for another that says the same
only_as : (F G : Choice → Type 0) (vs ws : List Var) (b c : List Binding) → vs ≡ ws → ((σ : Choice) → F σ → G σ) → ((σ : Choice) → G σ → F σ) → IsOnlyChoice F vs b c → IsOnlyChoice G ws b c
only_as F G vs ws b c e there back h = subst (λ (us : List Var). IsOnlyChoice G us b c) e (record {
  extends = h.extends;
  is = λ one σ a. there σ (h.is one σ a);
  only = λ one σ s a f. h.only one σ s a (back σ f);
})

outer_append : (g : Sig) (fs hs : List Fact) → facts_outer_vars g (fs ++ hs) ≡ facts_outer_vars g fs ++ facts_outer_vars g hs
outer_append g [] hs = refl
outer_append g (f ∷ fs) hs =
    ap (λ vs. all_outer_vars g (trees_of f.args) ++ vs) (outer_append g fs hs) ∙ sym (append_assoc (all_outer_vars g (trees_of f.args)) (facts_outer_vars g fs) (facts_outer_vars g hs))

outer_further : (g : Sig) (fs : List Fact) (k : ℕ) (f : Fact) → slice_get fs k ≡ Some f → facts_outer_vars g (take k fs) ++ all_outer_vars g (trees_of f.args) ≡ facts_outer_vars g (take (k + 1) fs)
outer_further g fs k f e =
    let one = ap (λ vs. facts_outer_vars g (take k fs) ++ vs) (append-nil (all_outer_vars g (trees_of f.args))) in
    sym (ap (facts_outer_vars g) (take_got fs k f e) ∙ outer_append g (take k fs) (f ∷ []) ∙ one)

outer_whole : (g : Sig) (fs : List Fact) (k : ℕ) → facts_outer_vars g (take k fs) ++ facts_outer_vars g (drop k fs) ≡ facts_outer_vars g fs
outer_whole g fs k = sym (outer_append g (take k fs) (drop k fs)) ∙ ap (facts_outer_vars g) (take-append-drop k fs)

module _ (j : ExtensionsJoin) (g : Sig) (fs hs : List Fact) (k : ℕ) (f h : Fact) (b c : List Binding) (hf : slice_get fs k ≡ Some f) (hh : slice_get hs k ≡ Some h)
    (before : IsOnlyChoice (FactsFit g (take k fs) (take k hs)) (facts_outer_vars g (take k fs)) b c) where
  facts_further : (d : List Binding) → IsOnlyChoice (FactFit g f h) (all_outer_vars g (trees_of f.args)) c d → IsOnlyChoice (FactsFit g (take (k + 1) fs) (take (k + 1) hs)) (facts_outer_vars g (take (k + 1) fs)) b d
  facts_further d i =
      let us = facts_outer_vars g (take k fs) in
      let xs = all_outer_vars g (trees_of f.args) in
      only_as (λ σ. FactsFit g (take k fs) (take k hs) σ × FactFit g f h σ) (FactsFit g (take (k + 1) fs) (take (k + 1) hs)) (us ++ xs) (facts_outer_vars g (take (k + 1) fs)) b d
      (outer_further g fs k f hf)
      (λ σ q. zip_further (FactFits g σ) fs hs k f h q.0 hf hh q.1)
      (λ σ q. zip_split (FactFits g σ) fs hs k f h hf hh q)
      (both_found j (FactsFit g (take k fs) (take k hs)) (FactFit g f h) us xs b c d before i)

  facts_not : HasNoChoice (FactFit g f h) (all_outer_vars g (trees_of f.args)) c → HasNoChoice (FactsFit g fs hs) (facts_outer_vars g fs) b
  facts_not i = λ one σ s a q.
      let us = facts_outer_vars g (take k fs) in
      let xs = all_outer_vars g (trees_of f.args) in
      let whole : facts_outer_vars g fs ≡ (us ++ xs) ++ facts_outer_vars g (drop (k + 1) fs) = sym (outer_whole g fs (k + 1)) ∙ ap (λ vs. vs ++ facts_outer_vars g (drop (k + 1) fs)) (sym (outer_further g fs k f hf)) in
      let sorts = front_sorts (bound_vars b) (us ++ xs) (facts_outer_vars g (drop (k + 1) fs)) (subst (λ (vs : List Var). HaveOneSort (bound_vars b ++ vs)) whole one) in
      second_none j (FactsFit g (take k fs) (take k hs)) (FactFit g f h) us xs b c before i sorts σ s a (zip_take (FactFits g σ) fs hs k q, zip_at (FactFits g σ) fs hs k f h q hf hh)

pub in_turn : ExtensionsJoin → FactsFitInTurn
in_turn j = record {
  none = λ g b. record { extends = j.by_none b; is = λ one σ a. tt; only = λ one σ s a f. a };
  further = λ g fs hs k f h b c d hf hh before i. facts_further j g fs hs k f h b c hf hh before d i;
  not = λ g fs hs k f h b c hf hh before i. facts_not j g fs hs k f h b c hf hh before i;
}

-- the only choice for the first facts, which are all
pub facts_whole : (g : Sig) (fs hs : List Fact) (b c : List Binding) (k : ℕ) → k ≡ length fs → k ≡ length hs → IsOnlyChoice (FactsFit g (take k fs) (take k hs)) (facts_outer_vars g (take k fs)) b c → IsOnlyChoice (FactsFit g fs hs) (facts_outer_vars g fs) b c
facts_whole g fs hs b c k hf hh i =
    subst (λ ys. IsOnlyChoice (FactsFit g fs ys) (facts_outer_vars g fs) b c) (take_all hs k hh) (subst (λ xs. IsOnlyChoice (FactsFit g xs (take k hs)) (facts_outer_vars g xs) b c) (take_all fs k hf) i)
