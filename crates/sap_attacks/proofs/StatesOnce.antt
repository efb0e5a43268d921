-- What is said of a state goes by its facts and uses in any order; and what is taken and added leads from one state to one.
use Rattle.std.proofs.Common.{◌≡◌, ℕ, true, false, List, [], ◌∷◌, ◌++◌, map, refl, sym, ap, subst, ◌∙◌}
use Rattle.sap_terms.specs.AdversaryFacts.{fr_fact, in_fact, k_fact, out_fact}
use Rattle.sap_terms.specs.Choice.{Choice}
use Rattle.sap_terms.specs.FactNames.{fr_name, in_name}
use Rattle.sap_terms.specs.Signature.{Sig}
use Rattle.sap_terms.specs.Trace.{Trace}
use Rattle.sap_terms.specs.Tree.{Tree, fresh}
use Rattle.sap_terms.specs.declared.binding.Binding.{Binding}
use Rattle.sap_terms.specs.declared.fact.Fact.{Fact}
use Rattle.sap_terms.proofs.PlainLaws.Known.{clash, two_names}
use Rattle.sap_process.specs.Proc.{Proc}
use Rattle.sap_rule.specs.declared.rule.Rule.{Rule}
use Rattle.sap_attacks.specs.Settling.{IsReplacedInOneWay}
use Rattle.sap_attacks.specs.ShortRuleLines.{HasFirst, it_stands, was_taken, Fits}
use Rattle.sap_attacks.specs.ShortRuleStates.{ShortState, Adds, AreOneState, is_passing, lasting_of, outputs_of}
use Rattle.sap_attacks.specs.SilentUses.{IsSilentUse}
use Rattle.sap_attacks.specs.Taking.{IsPending, Precedes, pending, given, Takes, draws, is_given, stays, goes, TakesEach, none_left, then_on}
use Rattle.sap_attacks.proofs.Alikes.{alike-refl, alike-sym, alike-append, alike-uncons, alike-same, facts_have, uses_have}
use Rattle.sap_attacks.proofs.Settled.{settled_once}

pub one-refl : (s : ShortState) → AreOneState s s
one-refl s = record { facts = alike-refl s.facts; known = refl; made = refl; unnamed = alike-refl s.unnamed; shown = refl }

pub one-sym : (s z : ShortState) → AreOneState s z → AreOneState z s
one-sym s z a = record { facts = alike-sym s.facts z.facts a.facts; known = sym a.known; made = sym a.made; unnamed = alike-sym s.unnamed z.unnamed a.unnamed; shown = sym a.shown }

-- states that are what these are
pub one_as : (s z y x : ShortState) → y ≡ s → x ≡ z → AreOneState s z → AreOneState y x
one_as s z y x e k a = subst (λ u. AreOneState u x) (sym e) (subst (λ u. AreOneState s u) (sym k) a)

pub first_moved : (g : Sig) (p : Proc) (s z : ShortState) (r : Rule) (σ : Choice) → AreOneState s z → HasFirst g p s r σ → HasFirst g p z r σ
first_moved g p s z r σ a (it_stands first f others e i c) = it_stands first f others e i (facts_have s.facts z.facts f a.facts c)
first_moved g p s z r σ a (was_taken l c) = was_taken l (uses_have s.unnamed z.unnamed _ a.unnamed c)

pub fits_moved : (g : Sig) (p : Proc) (s z : ShortState) (r : Rule) (b : List Binding) (σ : Choice) → AreOneState s z → Fits g p s r b σ → Fits g p z r b σ
fits_moved g p s z r b σ a f = record { messages = f.messages; agrees = f.agrees; first = first_moved g p s z r σ a f.first }

abbrev first_arg : List Tree → Tree → Tree
first_arg [] d = d
first_arg (t ∷ ts) d = t

pub same_name : (f : Fact) (m n : ℕ) → f ≡ fr_fact m → f ≡ fr_fact n → m ≡ n
same_name f m n a b =
    let e : fresh m ≡ fresh n = ap (λ (h : Fact). first_arg h.args (fresh m)) (sym a ∙ b) in
    cc

pub same_message : (f : Fact) (t u : Tree) → f ≡ in_fact t → f ≡ in_fact u → t ≡ u
same_message f t u a b = ap (λ (h : Fact). first_arg h.args t) (sym a ∙ b)

pub name_or_message : (f : Fact) (n : ℕ) (t : Tree) → f ≡ fr_fact n → f ≡ in_fact t → ⊥
name_or_message f n t a b = two_names fr_name in_name refl (ap (λ (h : Fact). h.name) (sym a ∙ b))

pub name_passes : (f : Fact) (n : ℕ) → f ≡ fr_fact n → is_passing f ≡ false → ⊥
name_passes f n a b = clash true refl (sym (ap is_passing a) ∙ b)

pub message_passes : (f : Fact) (t : Tree) → f ≡ in_fact t → is_passing f ≡ false → ⊥
message_passes f t a b = clash true refl (sym (ap is_passing a) ∙ b)

-- what precedes an input is one
precedes_once : (tr ts : Trace) (t u : Tree) (a b : Trace) → tr ≡ ts → t ≡ u → Precedes tr t a → Precedes ts u b → a ≡ b
precedes_once tr ts t u a b e k (pending _ h) (pending _ i) = h ∙ sym i
precedes_once tr ts t u a b e k (pending q h) (given n i) = absurd (n (subst (λ x. IsPending x u) e (subst (λ x. IsPending tr x) k q)))
precedes_once tr ts t u a b e k (given n h) (pending q i) = absurd (n (subst (λ x. IsPending x t) (sym e) (subst (λ x. IsPending ts x) (sym k) q)))
precedes_once tr ts t u a b e k (given n h) (given m i) = h ∙ ap (λ x. (k_fact x ∷ []) ∷ []) k ∙ sym i

-- a fact is taken in one way
pub takes_once : (g : Sig) (s z : ShortState) (f : Fact) (y x : ShortState) → AreOneState s z → Takes g s f y → Takes g z f x → AreOneState y x
takes_once g s z f y x a (draws n e c h) (draws m k d i) =
    let same = same_name f n m e k in
    one_as (record s { made = s.made ++ n ∷ [] }) (record z { made = z.made ++ m ∷ [] }) y x h i
    (record { facts = a.facts; known = a.known; made = (λ j. a.made j ++ same j ∷ []); unnamed = a.unnamed; shown = a.shown })
takes_once g s z f y x a (is_given t before e c q h) (is_given u after k d r i) =
    let same = precedes_once s.shown z.shown t u before after a.shown (same_message f t u e k) q r in
    one_as (record s { shown = s.shown ++ before }) (record z { shown = z.shown ++ after }) y x h i
    (record { facts = a.facts; known = a.known; made = a.made; unnamed = a.unnamed; shown = (λ j. a.shown j ++ same j) })
takes_once g s z f y x a (stays n l c h) (stays m k d i) = one_as s z y x h i a
takes_once g s z f y x a (goes rest n l c h) (goes others m k d i) =
    one_as (record s { facts = rest }) (record z { facts = others }) y x h i
    (record { facts = alike-uncons f rest others (λ w. sym (c w) ∙ a.facts w ∙ d w); known = a.known; made = a.made; unnamed = a.unnamed; shown = a.shown })
takes_once g s z f y x a (draws n e _ _) (is_given u _ k _ _ _) = absurd (name_or_message f n u e k)
takes_once g s z f y x a (draws n e _ _) (stays m _ _ _) = absurd (name_passes f n e m)
takes_once g s z f y x a (draws n e _ _) (goes _ m _ _ _) = absurd (name_passes f n e m)
takes_once g s z f y x a (is_given t _ e _ _ _) (draws m k _ _) = absurd (name_or_message f m t k e)
takes_once g s z f y x a (is_given t _ e _ _ _) (stays m _ _ _) = absurd (message_passes f t e m)
takes_once g s z f y x a (is_given t _ e _ _ _) (goes _ m _ _ _) = absurd (message_passes f t e m)
takes_once g s z f y x a (stays n _ _ _) (draws m k _ _) = absurd (name_passes f m k n)
takes_once g s z f y x a (stays n _ _ _) (is_given u _ k _ _ _) = absurd (message_passes f u k n)
takes_once g s z f y x a (stays _ l _ _) (goes _ _ k _ _) = clash f.persistent l k
takes_once g s z f y x a (goes _ n _ _ _) (draws m k _ _) = absurd (name_passes f m k n)
takes_once g s z f y x a (goes _ n _ _ _) (is_given u _ k _ _ _) = absurd (message_passes f u k n)
takes_once g s z f y x a (goes _ _ l _ _) (stays _ k _ _) = clash f.persistent k l

pub each_once : (g : Sig) (s z : ShortState) (left : List Fact) (y x : ShortState) → AreOneState s z → TakesEach g s left y → TakesEach g z left x → AreOneState y x
each_once g s z [] _ _ a none_left none_left = a
each_once g s z (f ∷ fs) y x a (then_on u t d) (then_on v r e) = each_once g u v fs y x (takes_once g s z f u v a t r) d e

-- terms that are put out are told by the outputs
told_once : (ts us : List Tree) → map out_fact ts ≡ map out_fact us → ts ≡ us
told_once [] [] e = refl
told_once [] (u ∷ us) e = absurd (cc)
told_once (t ∷ ts) [] e = absurd (cc)
told_once (t ∷ ts) (u ∷ us) e =
    let heads : out_fact t ≡ out_fact u = cc in
    let here : t ≡ u = ap (λ (h : Fact). first_arg h.args t) heads in
    let tails : map out_fact ts ≡ map out_fact us = cc in
    let more = told_once ts us tails in
    λ i. here i ∷ more i

-- facts that come lead to one state
pub adds_once : (g : Sig) (W : Tree → Type 0) (p : Proc) (s z : ShortState) (right : List Fact) (seen : Trace) (y x : ShortState) → IsReplacedInOneWay (IsSilentUse g W p)
    → AreOneState s z → Adds g W p s right seen y → Adds g W p z right seen x → AreOneState y x
adds_once g W p s z right seen y x o a b c =
    let r = settled_once (IsSilentUse g W p) o b.settles c.settles in
    let told = told_once b.told c.told (sym b.put_out ∙ ap outputs_of r.0 ∙ c.put_out) in
    one_as
    (record { facts = s.facts ++ lasting_of b.settled; known = s.known ++ b.told; made = s.made; unnamed = s.unnamed ++ b.uses; shown = s.shown ++ seen })
    (record { facts = z.facts ++ lasting_of c.settled; known = z.known ++ c.told; made = z.made; unnamed = z.unnamed ++ c.uses; shown = z.shown ++ seen })
    y x b.becomes c.becomes
    (record {
      facts = alike-append s.facts z.facts (lasting_of b.settled) (lasting_of c.settled) a.facts (alike-same (lasting_of b.settled) (lasting_of c.settled) (ap lasting_of r.0));
      known = (λ j. a.known j ++ told j);
      made = a.made;
      unnamed = alike-append s.unnamed z.unnamed b.uses c.uses a.unnamed (alike-same b.uses c.uses r.1);
      shown = (λ j. a.shown j ++ seen);
    })
