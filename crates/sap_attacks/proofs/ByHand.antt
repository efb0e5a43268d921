-- What small processes and lines by hand rest on: names are messages and normal, and what small traces show is admitted.
use Rattle.std.proofs.Common.{◌≡◌, ℕ, zero, suc, false, List, [], ◌∷◌, Some, inl, inr, refl, sym, ap, subst, ◌∙◌, arith}
use Rattle.std.specs.Prelude.{codes}
use Rattle.std.specs.List.{AllZip}
use Rattle.std.specs.Str.{bytes_eq}
use Rattle.sap_terms.specs.Choice.{Choice}
use Rattle.sap_terms.specs.Deduce.{IsDeducible, IsDerived, a_public, a_name, given as sent, applied}
use Rattle.sap_terms.specs.Equal.{same}
use Rattle.sap_terms.specs.Equations.{equations}
use Rattle.sap_terms.specs.Laws.{NamesAreMessages}
use Rattle.sap_terms.specs.Message.{IsMessage, IsMessageChoice}
use Rattle.sap_terms.specs.Modulo.{instance_facts, IsFormOfFact}
use Rattle.sap_terms.specs.Normal.{IsNormalForm}
use Rattle.sap_terms.specs.Signature.{Sig}
use Rattle.sap_terms.specs.Tree.{Tree, fresh, public}
use Rattle.sap_terms.specs.declared.fact.Fact.{Fact}
use Rattle.sap_terms.specs.declared.var.Sort.{Sort}
use Rattle.sap_terms.specs.declared.var.Sort.TheVariants.{Fresh, Msg, Pub}
use Rattle.sap_terms.specs.declared.var.Var.{Var}
use Rattle.sap_terms.proofs.PlainLaws.Items.{none_contained, item_cases}
use Rattle.sap_terms.proofs.PlainLaws.Known.{two_names}
use Rattle.sap_process.specs.Proc.{Proc, act, nil, parallel, replicated}
use Rattle.sap_process.specs.Action.{out}
use Rattle.sap_restrict.specs.Laws.{QuietLaw}
use Rattle.sap_restrict.specs.Shown.{NoneShows}
use Rattle.sap_restrict.specs.Standard.{IsAdmitted}
use Rattle.sap_rewrite.specs.Laws.{FormIsOne}
use Rattle.sap_rule.specs.declared.rule.Rule.{Rule}
use Rattle.sap_templates.specs.Templates.{nil_rule, out_rule, parallel_rule, rep_start_rule, state}
use Rattle.std.proofs.lemmas.Option.{same_Some}
use Rattle.sap_attacks.specs.Settling.{Use}
use Rattle.sap_attacks.specs.ShortRuleExamples.{a, bare}
use Rattle.sap_attacks.specs.Silent.{silent_rule}
use Rattle.sap_attacks.specs.SilentUses.{IsSilentUse, MayBeLeftOut}
use Rattle.sap_attacks.proofs.SilentOnce.{silent_left}

-- each variable stands for a name: `~s` for the one of this number, any other for 'a'
abbrev pub named_for : ℕ → Sort → Tree
named_for n Msg = a
named_for n Fresh = fresh n
named_for n Pub = a

abbrev pub named_so : ℕ → Choice
named_so n v = named_for n v.sort

-- and x stands for this fresh name
abbrev pub x_for : ℕ → Sort → Tree
x_for n Msg = fresh n
x_for n Fresh = fresh n
x_for n Pub = a

abbrev pub x_so : ℕ → Choice
x_so n v = x_for n v.sort

module _ (all : NamesAreMessages) (g : Sig) where
  pub public_form : (n : List ℕ) → IsNormalForm (equations g) (public n) (public n)
  public_form n = record { equal = same; normal = (all.public_name g Msg n refl).normal }

  pub fresh_form : (k : ℕ) → IsNormalForm (equations g) (fresh k) (fresh k)
  fresh_form k = record { equal = same; normal = (all.fresh_name g Msg k refl).normal }

  so_message : (n : ℕ) (s : Sort) → IsMessage g s (named_for n s)
  so_message n Msg = all.public_name g Msg _ refl
  so_message n Fresh = all.fresh_name g Fresh n refl
  so_message n Pub = all.public_name g Pub _ refl

  pub so_messages : (n : ℕ) → IsMessageChoice g (named_so n)
  so_messages n v = so_message n v.sort

  x_message : (n : ℕ) (s : Sort) → IsMessage g s (x_for n s)
  x_message n Msg = all.fresh_name g Msg n refl
  x_message n Fresh = all.fresh_name g Fresh n refl
  x_message n Pub = all.public_name g Pub _ refl

  pub x_messages : (n : ℕ) → IsMessageChoice g (x_so n)
  x_messages n v = x_message n v.sort

  -- 'a' can be given by who knows nothing
  pub gives_a : IsDeducible g [] [] a
  gives_a = record { form = a; is_form = public_form (codes "a"); earlier = []; derivation = (a_public (codes "a") refl, tt) }

-- but no fresh name can, where no symbol is held
no_fresh : (ts : List Tree) (t : Tree) (k : ℕ) → IsDerived bare [] [] ts t → t ≡ fresh k → ⊥
no_fresh ts t k (a_public n e) is = cc
no_fresh ts t k (a_name n m e) is = omega (arith, m.1)
no_fresh ts t k (sent m) is = omega (arith, m.1)
no_fresh ts t k (applied f us free arity every form) is = absurd free

pub not_gives : NamesAreMessages → FormIsOne → (k : ℕ) → IsDeducible bare [] [] (fresh k) → ⊥
not_gives all one k d = no_fresh d.earlier d.form k d.derivation.0 (one (equations bare) (fresh k) d.form (fresh k) d.is_form (fresh_form all bare k))

-- no silent rule takes a fact whose name is no state fact's
pub other_name : (g : Sig) (W : Tree → Type 0) (p : Proc) (f : Fact) (u : Use) (more : List Fact) → ((path : List ℕ) → bytes_eq f.name (state path []).name ≡ false)
    → IsSilentUse g W p f u more → ⊥
other_name g W p f u more h s =
    let q = s.silent in
    let forms = subst (λ hs. AllZip (IsFormOfFact (equations g)) (instance_facts s.choice hs) (f ∷ [])) (silent_left q.path q.scope q.body s.rule q.is) s.is_instance.takes in
    two_names f.name (state q.path []).name (h q.path) forms.0.name

-- a silent rule shows nothing
silent_acts : (path : List ℕ) (v : List Var) (b : Proc) (r : Rule) → silent_rule path v b ≡ Some r → r.acts ≡ []
silent_acts path v nil r e = ap (λ (q : Rule). q.acts) (sym (same_Some (nil_rule path v) r e))
silent_acts path v (parallel b c) r e = ap (λ (q : Rule). q.acts) (sym (same_Some (parallel_rule path v) r e))
silent_acts path v (replicated b) r e = ap (λ (q : Rule). q.acts) (sym (same_Some (rep_start_rule path v) r e))
silent_acts path v (act (out t) b) r e = ap (λ (q : Rule). q.acts) (sym (same_Some (out_rule path v t) r e))
silent_acts path v _ r e = cc

-- a rule that takes two facts, or one that is no state fact, or that shows something and takes one, isn't left out
pub takes_two : (p : Proc) (r : Rule) (f h : Fact) (fs : List Fact) → r.left ≡ f ∷ h ∷ fs → MayBeLeftOut p r → ⊥
takes_two p r f h fs e (inl s) = let two : f ∷ h ∷ fs ≡ state s.path s.scope ∷ [] = sym e ∙ silent_left s.path s.scope s.body r s.is in absurd (cc)
takes_two p r f h fs e (inr k) = let none : f ∷ h ∷ fs ≡ [] = sym e ∙ ap (λ (q : Rule). q.left) k in absurd (cc)

pub takes_other : (p : Proc) (r : Rule) (f : Fact) (fs : List Fact) → r.left ≡ f ∷ fs → ((path : List ℕ) → bytes_eq f.name (state path []).name ≡ false) → MayBeLeftOut p r → ⊥
takes_other p r f fs e h (inl s) =
    let lists : f ∷ fs ≡ state s.path s.scope ∷ [] = sym e ∙ silent_left s.path s.scope s.body r s.is in
    let one : f ≡ state s.path s.scope = cc in
    two_names f.name (state s.path []).name (h s.path) (ap (λ (z : Fact). z.name) one)
takes_other p r f fs e h (inr k) = let none : f ∷ fs ≡ [] = sym e ∙ ap (λ (q : Rule). q.left) k in absurd (cc)

pub shows_one : (p : Proc) (r : Rule) (f h : Fact) (fs hs : List Fact) → r.acts ≡ f ∷ fs → r.left ≡ h ∷ hs → MayBeLeftOut p r → ⊥
shows_one p r f h fs hs e l (inl s) = let none : f ∷ fs ≡ [] = sym e ∙ silent_acts s.path s.scope s.body r s.is in absurd (cc)
shows_one p r f h fs hs e l (inr k) = let none : h ∷ hs ≡ [] = sym l ∙ ap (λ (q : Rule). q.left) k in absurd (cc)

module _ (quiet : QuietLaw) where
  -- where nothing was shown, all restrictions are true
  pub nothing_shown : (g : Sig) → IsAdmitted g []
  nothing_shown g w = quiet w g [] (λ k f c e. none_contained c)

-- a trace that shows two facts, one after the other, shows none of another name
pub two_shown : (f h : Fact) (n : List ℕ) → bytes_eq f.name n ≡ false → bytes_eq h.name n ≡ false → NoneShows n ((f ∷ []) ∷ (h ∷ []) ∷ [])
two_shown f h n x y zero d c e = two_names f.name n x (ap (λ (z : Fact). z.name) (item_cases f d c) ∙ e)
two_shown f h n x y (suc zero) d c e = two_names h.name n y (ap (λ (z : Fact). z.name) (item_cases h d c) ∙ e)
two_shown f h n x y (suc (suc k)) d c e = none_contained c

-- and one that shows one fact
pub one_shown : (f : Fact) (n : List ℕ) → bytes_eq f.name n ≡ false → NoneShows n ((f ∷ []) ∷ [])
one_shown f n x zero d c e = two_names f.name n x (ap (λ (z : Fact). z.name) (item_cases f d c) ∙ e)
one_shown f n x (suc k) d c e = none_contained c
