-- Steps that are possible, and why others are refused, by hand: of in(<x,'b'>), of out('c',..), over pairs and over no symbols.
use Rattle.std.specs.Prelude.{◌≡◌, ◌⊎◌, ℕ, zero, suc, List, [], ◌∷◌, codes, Some, None}
use Rattle.sap_terms.specs.AdversaryFacts.{k_fact}
use Rattle.sap_terms.specs.Equations.{equations, app1, fst_name}
use Rattle.sap_terms.specs.Normal.{IsNormalForm}
use Rattle.sap_terms.specs.Signature.{pairs_alone}
use Rattle.sap_terms.specs.Tree.{Tree, fresh}
use Rattle.sap_terms.specs.View.{term}
use Rattle.sap_process.specs.Action.{input}
use Rattle.sap_process.specs.Configuration.{initial, becomes, sends_out}
use Rattle.sap_process.specs.Proc.{Proc, nil, act}
use Rattle.sap_process.specs.StepExamples.{a, b, c, var_x, pair, alone, showing, shown_fact, sending}
use Rattle.sap_runs.specs.Limits.{HasFewNodes}
use Rattle.sap_runs.specs.declared.process_step.PStep.{PStep}
use Rattle.sap_runs.specs.declared.process_step.PStep.TheVariants as line
use Rattle.sap_runs.specs.declared.short_step.SStep.{SStep}
use Rattle.sap_runs.specs.declared.short_step.SStep.TheVariants as short
use Rattle.sap_lines.specs.declared.fault.PFault.TheVariants as fault
use Rattle.sap_intruder.specs.FilledRuns.{IsLeftOut}
use Rattle.sap_intruder.specs.OneAnswer.{IsFirstRefusedOfShort}
use Rattle.sap_intruder.specs.Refusals.{IsShortRefused}
use Rattle.sap_intruder.specs.ShortExamples.{bare, unheld}
use Rattle.sap_intruder.specs.ShortLines.{IsShortLine}
use Rattle.sap_intruder.specs.declared.fill_fault.FillFault.TheVariants as fill

-- in(<x,'b'>); event A(x)
abbrev pub taking_pair : Proc
taking_pair = act (input (pair var_x b)) (showing var_x)

-- fst(<'a',q('a')>), whose normal form is 'a', and which has a symbol that isn't held
abbrev pub vanishing : Tree
vanishing = app1 fst_name (pair a unheld)

-- 'a', and a pair of the one before twice, so many times over: of 2^k names
abbrev pub doubled : ℕ → Tree
doubled zero = a
doubled (suc k) = pair (doubled k) (doubled k)

-- `know 'a'` and `know ~1`
abbrev pub known_twice : List SStep
known_twice = short.Know (term a) ∷ short.Know (term (fresh 1)) ∷ []

pub record PossibleByHand : Type 0 where
  pub ends : IsShortLine bare HasFewNodes (initial nil) (short.Act (line.Nil 0)) [] []
      (becomes (initial nil) 0 None)
  pub shows : IsShortLine bare HasFewNodes (alone (showing a)) (short.Act (line.Event 0)) []
      (shown_fact a ∷ []) (becomes (alone (showing a)) 0 (Some nil))
  pub takes : IsShortLine pairs_alone HasFewNodes (alone taking_pair)
      (short.In 0 (term (pair a b))) [] (k_fact (pair a b) ∷ [])
      (becomes (alone taking_pair) 0 (Some (showing a)))
  pub sends : IsShortLine bare HasFewNodes (alone (sending c a)) (short.Send 0) []
      (k_fact c ∷ []) (sends_out (becomes (alone (sending c a)) 0 (Some (showing b))) a)

pub record RefusedByHand : Type 0 where
  -- what can't be given is refused as such, and not since it doesn't fit; what can be given and doesn't fit is refused for that
  pub not_given : IsShortRefused bare (alone taking_pair) (short.In 0 (term (fresh 1)))
      fill.NotDeduced
  pub not_unfit : ¬ IsShortRefused bare (alone taking_pair) (short.In 0 (term (fresh 1)))
      (fill.Process fault.NoMatch)
  pub unfit : IsShortRefused bare (alone taking_pair) (short.In 0 (term a))
      (fill.Process fault.NoMatch)
  -- a message that is too large is told before a channel that can't be given
  pub large : IsShortRefused pairs_alone (alone (sending (fresh 1) (doubled 8))) (short.Send 0)
      (fill.Process fault.TermLarge)
  pub not_hidden : ¬ IsShortRefused pairs_alone (alone (sending (fresh 1) (doubled 8)))
      (short.Send 0) fill.NotDeduced
  pub hidden : IsShortRefused bare (alone (sending (fresh 1) a)) (short.Send 0) fill.NotDeduced
  -- a term is bad as it is written, whatever its normal form
  pub vanishes : IsNormalForm (equations pairs_alone) vanishing a
  pub bad : IsShortRefused pairs_alone (initial nil) (short.Know (term vanishing)) fill.BadTerm
  -- the second step is refused, and not the first
  pub second : IsFirstRefusedOfShort bare nil known_twice 2 fill.NotDeduced
  pub not_first : ¬ IsFirstRefusedOfShort bare nil known_twice 1 fill.NotDeduced

-- a line that is left out writes down a public name or applies a symbol, and each that does is
pub record LeftOutByHand : Type 0 where
  pub written : (n : List ℕ) → IsLeftOut (line.Public n)
  pub applied : (f ks : List ℕ) → IsLeftOut (line.Apply f ks)
  pub alone : (s : PStep) → IsLeftOut s
      → ((n : List ℕ) × (s ≡ line.Public n)) ⊎ ((f : List ℕ) × (ks : List ℕ) × (s ≡ line.Apply f ks))
