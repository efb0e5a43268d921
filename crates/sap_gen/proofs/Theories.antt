-- Short theories keep files.
use Rattle.std.proofs.Common.{◌≡◌, ◌↔◌, ◌<◌, ◌^◌, ◌⊎◌, List, [], ◌∷◌, Some, refl, sym, ap, subst, ◌∙◌, arith}
use Rattle.std.specs.Prelude.{All, Contains}
use Rattle.std.specs.List.{AllZip}
use Rattle.sap_terms.specs.Equations.{pair_name}
use Rattle.sap_terms.specs.Signature.{Sig, arity_of}
use Rattle.sap_terms.specs.Trace.{Trace}
use Rattle.sap_rewrite.specs.Laws.{EachHasForm, FormIsOne, NormalTermsDecide}
use Rattle.sap_formula.specs.Form.{LemmaForm}
use Rattle.sap_formula.specs.Laws.{IsClosed}
use Rattle.sap_formula.specs.Truth.{EachIn}
use Rattle.sap_locks.specs.Annotation.{IsAnnotation}
use Rattle.sap_process.specs.Proc.{Proc, node_count}
use Rattle.sap_process.specs.Ready.{IsReady}
use Rattle.sap_read.specs.Files.{FileContent, IsRunnable}
use Rattle.sap_rule.specs.Messages.{RunsReachMessages}
use Rattle.sap_rule.specs.WellMade.{IsWellMade}
use Rattle.sap_rule.specs.declared.rule.Rule.{Rule}
use Rattle.sap_rule.specs.declared.theory.Theory.{Theory}
use Rattle.sap_translate.specs.Faithful.{IsShownBy, IsVisibleTrace}
use Rattle.sap_translate.specs.PlaceRules.{IsOfPlace}
use Rattle.sap_translate.specs.Sound.{IsSound, SoundPlaces}
use Rattle.sap_templates.specs.Templates.{init_rule, rules_of}
use Rattle.sap_gen.specs.Kept.{IsClosedTheory, IsKept, KeepsFile, file_theory}
use Rattle.sap_gen.specs.Short.{AreShort}
use Rattle.sap_gen.specs.ShortTheories.{IsShortTheory}
use Rattle.sap_gen.specs.Silent.{IsSilentRule}
use Rattle.sap_gen.specs.code.SettledPlaces.{short_rules}
use Rattle.sap_gen.proofs.After.{shortenings-show-the-same}
use Rattle.sap_gen.proofs.Normals.{runs_hold_normal}
use Rattle.sap_gen.proofs.Places.Finding.{moves_of}
use Rattle.sap_gen.proofs.Places.Shortening.{process_short, short_one, shortening}
use Rattle.sap_gen.proofs.Traces.{AreTwins, EmptyTimes, same_lemmas, same_shown, same_visible, twins}

-- what is said of the places of processes, below
pub record PlaceLaws : Type 0 where
  pub sound : (g : Sig) (p q : Proc) → IsReady g p → node_count p < 2 ^ 64 → IsAnnotation p q → IsSound g q
  pub origin : (p : Proc) (r : Rule) → Contains (rules_of p) r → (r ≡ init_rule) ⊎ IsOfPlace p r
  pub placed : (p : Proc) (r : Rule) → IsOfPlace p r → Contains (rules_of p) r

-- and of rules, their runs and full traces
pub record RunLaws : Type 0 where
  pub forms : EachHasForm
  pub one_form : FormIsOne
  pub decide : NormalTermsDecide
  pub reach : RunsReachMessages
  pub made : (g : Sig) (p q : Proc) → arity_of g pair_name ≡ Some 2 → IsReady g p → node_count p < 2 ^ 64 → IsAnnotation p q → All (IsWellMade g) (rules_of q)
  pub empty : EmptyTimes

-- the theory of the file with other rules
abbrev with_rules : FileContent → List Rule → Theory
with_rules f rules = record (file_theory f) { rules = rules }

module _ (laws : PlaceLaws) (f : FileContent) (run : IsRunnable f) where
  small : node_count run.process < 2 ^ 64
  small = omega (arith, run.small)

  sound : IsSound f.signature f.process
  sound = laws.sound f.signature run.process f.process run.ready small run.annotation

  -- there is a short theory
  pub some_theory : (t : Theory) × IsShortTheory f t
  some_theory = (
    with_rules f (short_rules f.process),
    record {
      rules = process_short f.signature f.process sound.0 (laws.origin f.process) (laws.placed f.process);
      others = refl;
    },
  )

  module _ (runs : RunLaws) (shorts : List Rule) (short : AreShort f.process (rules_of f.process) shorts) where
    made : All (IsWellMade f.signature) (rules_of f.process)
    made = runs.made f.signature run.process f.process run.pairs run.ready small run.annotation

    -- its rules have the full traces of the file's, but for empty times
    alike : AreTwins f.signature (rules_of f.process) shorts
    alike = twins f.signature (rules_of f.process) shorts
        (shortenings-show-the-same runs.forms runs.one_form runs.decide f.signature (IsSilentRule f.process) (moves_of f.signature f.process sound.0) (rules_of f.process) shorts
        (shortening f.signature f.process sound.0 (laws.origin f.process) (laws.placed f.process) shorts short)
        (runs_hold_normal runs.reach f.signature (rules_of f.process) run.builtins made))
        (λ full r. (runs.reach f.signature (rules_of f.process) r.0 full run.builtins made r.1).0)

    pub visible : (tr : Trace) → IsVisibleTrace f.signature (rules_of f.process) tr ↔ IsVisibleTrace f.signature shorts tr
    visible = same_visible runs.empty f.signature (rules_of f.process) shorts alike

    module _ (closed : IsClosedTheory (file_theory f)) where
      pub shown : (tr : Trace) → IsShownBy (file_theory f) tr ↔ IsShownBy (with_rules f shorts) tr
      shown = same_shown runs.empty f.signature (rules_of f.process) shorts alike (file_theory f).restrictions closed.restrictions

      both_ways : {A B C : Type 0} → (A ↔ B) → (B ↔ C) → A ↔ C
      both_ways a b = (λ x. b.0 (a.0 x), λ z. a.1 (b.1 z))

      each_kept : (ls ms : List LemmaForm) → EachIn (λ (l : LemmaForm). IsClosed f.signature l.formula) ms → AllZip (IsKept f (file_theory f) (λ (l : LemmaForm). l.formula)) ls ms
          → AllZip (IsKept f (with_rules f shorts) (λ (l : LemmaForm). l.formula)) ls ms
      each_kept [] [] c k = tt
      each_kept [] (m ∷ ms) c k = absurd k
      each_kept (l ∷ ls) [] c k = absurd k
      each_kept (l ∷ ls) (m ∷ ms) c k = (
        record {
          name = k.0.name;
          attributes = k.0.attributes;
          mode = k.0.mode;
          formula = k.0.formula;
          holds = both_ways k.0.holds (same_lemmas runs.empty f.signature (rules_of f.process) shorts alike (file_theory f).restrictions closed.restrictions m.mode m.formula c.0);
        },
        each_kept ls ms c.1 k.1,
      )

      pub keeps_too : KeepsFile f (file_theory f) → KeepsFile f (with_rules f shorts)
      keeps_too k = record {
        name = k.name;
        signature = k.signature;
        restrictions = k.restrictions;
        shows = λ tr. both_ways (k.shows tr) (visible tr);
        shows_restricted = λ tr. both_ways (k.shows_restricted tr) (shown tr);
        lemmas = each_kept f.lemmas f.lemmas closed.lemmas k.lemmas;
      }

-- the same of every short theory
pub theory_visible : (laws : PlaceLaws) (runs : RunLaws) (f : FileContent) (t : Theory) → IsRunnable f → IsShortTheory f t → (tr : Trace)
    → IsVisibleTrace f.signature (file_theory f).rules tr ↔ IsVisibleTrace t.signature t.rules tr
theory_visible laws runs f t run s tr =
    subst (λ (u : Theory). IsVisibleTrace f.signature (file_theory f).rules tr ↔ IsVisibleTrace u.signature u.rules tr) (sym s.others) (visible laws f run runs t.rules s.rules tr)

pub theory_shown : (laws : PlaceLaws) (runs : RunLaws) (f : FileContent) (t : Theory) → IsClosedTheory (file_theory f) → IsRunnable f → IsShortTheory f t → (tr : Trace)
    → IsShownBy (file_theory f) tr ↔ IsShownBy t tr
theory_shown laws runs f t closed run s tr = subst (λ (u : Theory). IsShownBy (file_theory f) tr ↔ IsShownBy u tr) (sym s.others) (shown laws f run runs t.rules s.rules closed tr)

pub theory_keeps : (laws : PlaceLaws) (runs : RunLaws) (f : FileContent) (t : Theory) → IsClosedTheory (file_theory f) → KeepsFile f (file_theory f) → IsRunnable f → IsShortTheory f t → KeepsFile f t
theory_keeps laws runs f t closed keeps run s = subst (KeepsFile f) (sym s.others) (keeps_too laws f run runs t.rules s.rules closed keeps)

-- the process of the file is sound place by place
pub places_sound : PlaceLaws → (f : FileContent) → IsRunnable f → SoundPlaces f.signature f.process
places_sound laws f run = (sound laws f run).0

-- there is one short theory
pub one_theory : (f : FileContent) (t u : Theory) → IsShortTheory f t → IsShortTheory f u → t ≡ u
one_theory f t u a b = a.others ∙ ap (with_rules f) (short_one f.process (rules_of f.process) t.rules u.rules a.rules b.rules) ∙ sym b.others
