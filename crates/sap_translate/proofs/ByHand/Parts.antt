-- What it takes to follow a small process by hand: it is sound by its parts, and its rules show what it shows.
use Rattle.std.proofs.Common.{◌≡◌, ℕ, zero, suc, List, [], ◌∷◌, ◌++◌, Some, refl, subst, arith}
use Rattle.sap_terms.specs.Choice.{Choice}
use Rattle.sap_terms.specs.Equal.{IsTheoryEqual}
use Rattle.sap_terms.specs.Equations.{equations}
use Rattle.sap_terms.specs.Piles.{Takes}
use Rattle.sap_restrict.specs.ReservedFacts.{init_fact}
use Rattle.sap_rule.specs.RuleSteps.{IsFullTrace, RuleRun, RuleStep}
use Rattle.sap_terms.specs.Message.{IsMessage, IsMessageChoice}
use Rattle.sap_terms.specs.Normal.{IsNormalForm}
use Rattle.sap_terms.specs.Signature.{Sig, HoldsBuiltins}
use Rattle.sap_terms.specs.Tree.{Tree, public, fresh}
use Rattle.sap_terms.specs.Deduce.{IsDerived}
use Rattle.sap_terms.specs.declared.var.Sort.{Sort}
use Rattle.sap_terms.specs.declared.var.Sort.TheVariants.{Msg, Fresh, Pub}
use Rattle.sap_terms.specs.declared.var.Var.{Var}
use Rattle.sap_process.specs.Scopes.{scope_behind}
use Rattle.sap_process.specs.Configuration.{Config, CanGive}
use Rattle.sap_process.specs.Proc as whole
use Rattle.sap_process.specs.Proc.{Proc, act}
use Rattle.sap_process.specs.Sites.{message_var}
use Rattle.sap_translate.specs.Faithful.{ShowsAll, ShowsOnly}
use Rattle.sap_translate.specs.OpenLocks.{UnlocksAreOpen}
use Rattle.sap_templates.specs.Places.{ScopedPlace, scoped_place_at}
use Rattle.sap_process.specs.Places.{place}
use Rattle.sap_translate.specs.Sound.{SoundAt, SoundParts, IsSound}
use Rattle.sap_templates.specs.Templates.{first_of, init_rule, rules_of, second_of}
use Rattle.sap_translate.specs.relation.Spelled.{IsProcessOver}
use Rattle.sap_translate.proofs.Premises.LowerLaws.{Laws}
use Rattle.sap_translate.proofs.Premises.Messages.{tidy_run}
use Rattle.sap_translate.proofs.Premises.Spelled.{rules_over}
use Rattle.sap_translate.proofs.ProcessToRules.Forward.{shows_all}
use Rattle.sap_translate.proofs.RulesToProcess.Back.{shows_only}
use Rattle.sap_translate.proofs.Restricted.Truth.{truth_from, truth_to}

sound_here : (g : Sig) (v : List Var) (p : Proc) → SoundParts g v p → SoundAt g v p
sound_here g v whole.nil h = tt
sound_here g v (whole.parallel p q) h = tt
sound_here g v (whole.replicated p) h = tt
sound_here g v (act a p) h = h.0
sound_here g v (whole.test m n p q) h = h.0
sound_here g v (whole.lookup m x p q) h = h.0

parts_sound : (g : Sig) (at : List ℕ) (v : List Var) (p : Proc) → SoundParts g v p → (path : List ℕ) (b : ScopedPlace) → scoped_place_at (Some (place at v p)) path ≡ Some b → SoundAt g b.above b.body
parts_sound g at v p h [] b e = subst (λ (z : ScopedPlace). SoundAt g z.above z.body) (let z : place at v p ≡ b = cc in z) (sound_here g v p h)
parts_sound g at v p h (zero ∷ path) b e = absurd (cc)
parts_sound g at v (whole.nil) h (suc zero ∷ path) b e = absurd (cc)
parts_sound g at v (whole.parallel p q) h (suc zero ∷ path) b e = parts_sound g (first_of at) v p h.0 path b e
parts_sound g at v (whole.replicated p) h (suc zero ∷ path) b e = parts_sound g (first_of at) v p h path b e
parts_sound g at v (act a p) h (suc zero ∷ path) b e = parts_sound g (first_of at) (scope_behind v a) p h.1 path b e
parts_sound g at v (whole.test m n p q) h (suc zero ∷ path) b e = parts_sound g (first_of at) v p h.1 path b e
parts_sound g at v (whole.lookup m x p q) h (suc zero ∷ path) b e = parts_sound g (first_of at) (v ++ message_var x ∷ []) p h.1 path b e
parts_sound g at v (whole.nil) h (suc (suc zero) ∷ path) b e = absurd (cc)
parts_sound g at v (whole.parallel p q) h (suc (suc zero) ∷ path) b e = parts_sound g (second_of at) v q h.1 path b e
parts_sound g at v (whole.replicated p) h (suc (suc zero) ∷ path) b e = absurd (cc)
parts_sound g at v (act a p) h (suc (suc zero) ∷ path) b e = absurd (cc)
parts_sound g at v (whole.test m n p q) h (suc (suc zero) ∷ path) b e = parts_sound g (second_of at) v q h.2 path b e
parts_sound g at v (whole.lookup m x p q) h (suc (suc zero) ∷ path) b e = parts_sound g (second_of at) v q h.2 path b e
parts_sound g at v p h (suc (suc (suc d)) ∷ path) b e = absurd (cc)

pub sound_by_parts : (g : Sig) (p : Proc) → SoundParts g [] p → UnlocksAreOpen [] p → IsSound g p
sound_by_parts g p h locks = (parts_sound g [] [] p h, locks)

-- the rules of a sound process over the signature show what it shows
pub rules_show : (laws : Laws) → (g : Sig) (p : Proc) → HoldsBuiltins g → IsSound g p → IsProcessOver g p → ShowsAll g p (rules_of p)
rules_show laws g p hold sound over tr t =
    let w = (shows_all laws) g p hold sound tr t in
    let tidy = (tidy_run laws) hold (rules_over g p over) w.2 in
    (w.1, (w.0, w.2), truth_from laws.admitted g w.1 tidy w.3, w.4)

-- and nothing else
pub rules_show_only : (laws : Laws) → (g : Sig) (p : Proc) → HoldsBuiltins g → IsSound g p → IsProcessOver g p → ShowsOnly g p (rules_of p)
rules_show_only laws g p hold sound over tr w =
    let tidy = (tidy_run laws) hold (rules_over g p over) w.1.1 in
    (shows_only laws) g p hold sound tr (w.1.0, w.0, w.1.1, truth_to laws.admitted g w.0 tidy w.2, w.3)

-- a public name is its own normal form and has no other, and the adversary can give it
pub own_form : (laws : Laws) → (g : Sig) (n : List ℕ) → IsNormalForm (equations g) (public n) (public n)
own_form laws g n = record { equal = IsTheoryEqual.same; normal = laws.leaves.of_public_name (equations g) n }

pub form_is_own : (laws : Laws) → (g : Sig) (n : List ℕ) (m k : Tree) → m ≡ public n → IsNormalForm (equations g) m k → k ≡ public n
form_is_own laws g n m k e form = laws.one_form (equations g) (public n) k (public n) (subst (λ z. IsNormalForm (equations g) z k) e form) ((own_form laws) g n)

pub gives_name : (laws : Laws) → (g : Sig) (c : Config) (n : List ℕ) → CanGive g c (public n)
gives_name laws g c n = record {
  deducible = record { form = public n; is_form = (own_form laws) g n; earlier = []; derivation = (IsDerived.a_public n refl, tt) };
  normal = laws.leaves.of_public_name (equations g) n;
}

-- each variable stands for this public name, or for a fresh name where it has that sort
abbrev pub name_for : List ℕ → Sort → Tree
name_for n Msg = public n
name_for n Fresh = fresh 0
name_for n Pub = public n

abbrev pub all_named : List ℕ → Choice
all_named n v = name_for n v.sort

name_message : (laws : Laws) → (g : Sig) (n : List ℕ) (s : Sort) → IsMessage g s (name_for n s)
name_message laws g n Msg = record { ground = tt; over = tt; normal = laws.leaves.of_public_name (equations g) n; sorted = refl }
name_message laws g n Fresh = record { ground = tt; over = tt; normal = laws.leaves.of_fresh_name (equations g) 0; sorted = refl }
name_message laws g n Pub = record { ground = tt; over = tt; normal = laws.leaves.of_public_name (equations g) n; sorted = refl }

pub names_messages : (laws : Laws) → (g : Sig) (n : List ℕ) → IsMessageChoice g (all_named n)
names_messages laws g n v = (name_message laws) g n v.sort

-- each process has a full trace on which it starts
pub starting : (laws : Laws) → (g : Sig) (p : Proc) → IsFullTrace g (rules_of p) ((init_fact ∷ []) ∷ [])
starting laws g p = (
  _,
  RuleRun.further RuleRun.starts (RuleStep.uses init_rule [] (all_named []) [] (init_fact ∷ []) init_rule.right (0, omega arith, refl) Takes.nothing (record {
    messages = (names_messages laws) g [];
    takes = tt;
    shows = (record { name = refl; persistent = refl; args = tt }, tt);
    adds = (record { name = refl; persistent = refl; args = tt }, tt);
  })),
)
