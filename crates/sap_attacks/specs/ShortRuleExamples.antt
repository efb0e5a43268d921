-- Small processes, states and lines, to be tried by hand.
use Rattle.std.specs.Prelude.{ℕ, codes, List, [], ◌∷◌}
use Rattle.sap_terms.specs.AdversaryFacts.{k_fact, out_fact}
use Rattle.sap_terms.specs.Equations.{app1}
use Rattle.sap_terms.specs.Signature.{Sig, no_builtins}
use Rattle.sap_terms.specs.Tree.{Tree, fresh, public, variable}
use Rattle.sap_terms.specs.View.{term}
use Rattle.sap_terms.specs.declared.binding.Binding.{Binding}
use Rattle.sap_terms.specs.declared.fact.Fact.{Fact}
use Rattle.sap_terms.specs.declared.var.Sort.TheVariants.{Fresh, Msg}
use Rattle.sap_terms.specs.declared.var.Var.{Var}
use Rattle.sap_process.specs.Action.{input, new, out}
use Rattle.sap_process.specs.Proc.{Proc, act, nil, replicated, test}
use Rattle.sap_place.specs.StateFacts.{copies_fact, state_fact}
use Rattle.sap_restrict.specs.ReservedFacts.{init_fact, input_fact}
use Rattle.sap_restrict.specs.declared.which.Which.TheVariants as which
use Rattle.sap_runs.specs.Limits.{AnySize}
use Rattle.sap_steps.specs.declared.fault.RFault.TheVariants as line
use Rattle.sap_attacks.specs.RuleRefusals.{IsShortRuleRefused}
use Rattle.sap_attacks.specs.Settling.{Use}
use Rattle.sap_attacks.specs.ShortRuleLines.{IsShortRuleLine}
use Rattle.sap_attacks.specs.ShortRuleRuns.{Begins}
use Rattle.sap_attacks.specs.ShortRuleStates.{ShortState}
use Rattle.sap_attacks.specs.SilentUses.{SettlesTo, init_use}
use Rattle.sap_attacks.specs.declared.rule_fill_fault.RuleFillFault.TheVariants.{Rule as Line, Broken, BadTerm, NotDeduced, MoreThanOne}
use Rattle.sap_attacks.specs.declared.short_rule_step.ShortRuleStep.TheVariants.{Rule as Using, Know, Name}

-- a signature without symbols, 'a' and 'b', and q('a'), of a symbol that isn't held
abbrev pub bare : Sig
bare = record { symbols = []; builtins = no_builtins }

abbrev pub a : Tree
a = public (codes "a")

abbrev pub b : Tree
b = public (codes "b")

abbrev pub unheld : Tree
unheld = app1 (codes "q") a

-- ~s, and x
abbrev pub name_s : Var
name_s = record { name = codes "s"; sort = Fresh }

abbrev pub message_x : Var
message_x = record { name = codes "x"; sort = Msg }

-- new ~s; 0
abbrev pub drawing : Proc
drawing = act (new name_s) nil

-- out('a'); 0
abbrev pub telling : Proc
telling = act (out a) nil

-- in(x); 0
abbrev pub taking : Proc
taking = act (input (variable message_x)) nil

-- ! 0
abbrev pub copying : Proc
copying = replicated nil

-- if 'a' = 'b' then 0 else 0
abbrev pub testing : Proc
testing = test a b nil nil

-- the state fact of the whole process, and that of its first part, where ~s is this
abbrev pub at_start : Fact
at_start = state_fact [] []

abbrev pub with_name : ℕ → Fact
with_name n = state_fact (1 ∷ []) (fresh n ∷ [])

-- the uses of the rules of `0` and of `out` in these
abbrev pub ended_with : Tree → Use
ended_with t = record { name = codes "Nil_1"; terms = t ∷ [] }

abbrev pub ended : Use
ended = record { name = codes "Nil_1"; terms = [] }

abbrev pub told : Use
told = record { name = codes "Out_"; terms = [] }

-- these facts stand, and these uses are unnamed; nothing is known, drawn or shown
abbrev pub where_stand : List Fact → List Use → ShortState
where_stand facts unnamed = record { facts = facts; known = []; made = []; unnamed = unnamed; shown = [] }

-- ~s is this, x is this
abbrev pub s_is : Tree → Binding
s_is t = record { var = name_s; term = term t }

abbrev pub x_is : Tree → Binding
x_is t = record { var = message_x; term = term t }

-- no normal form is small enough
abbrev pub NoSize : Tree → Type 0
NoSize t = ⊥

-- what settles: an output is put out, and the process ends; what isn't silent stays, and so does what a silent rule would take beyond
-- the limit; and what can be replaced doesn't stay
pub record SettlesByHand : Type 0 where
  pub output : SettlesTo bare AnySize telling (at_start ∷ []) (out_fact a ∷ []) (told ∷ ended ∷ [])
  pub waits : SettlesTo bare AnySize drawing (at_start ∷ []) (at_start ∷ []) []
  pub too_large : SettlesTo bare NoSize telling (at_start ∷ []) (at_start ∷ []) []
  pub not_left : ¬ SettlesTo bare AnySize telling (at_start ∷ []) (at_start ∷ []) []

-- lines that are possible
pub record LinesByHand : Type 0 where
  -- a run of out('a'); 0 begins where 'a' is known, and all is done
  pub begins : Begins bare AnySize telling
      (record { facts = []; known = a ∷ []; made = []; unnamed = init_use ∷ told ∷ ended ∷ []; shown = (init_fact ∷ []) ∷ [] })
  -- `New_ with ~s=~1` draws the name and takes control on to the end
  pub draws : IsShortRuleLine bare AnySize drawing (where_stand (at_start ∷ []) []) (Using (codes "New_") (s_is (fresh 1) ∷ []))
      (record { facts = []; known = []; made = 1 ∷ []; unnamed = ended_with (fresh 1) ∷ []; shown = [] })
  -- `In_ with x='a'` shows K('a') first, unless it was shown last
  pub gives : IsShortRuleLine bare AnySize taking (where_stand (at_start ∷ []) []) (Using (codes "In_") (x_is a ∷ []))
      (record { facts = []; known = []; made = []; unnamed = ended_with a ∷ []; shown = (k_fact a ∷ []) ∷ (input_fact a ∷ []) ∷ [] })
  pub gave : IsShortRuleLine bare AnySize taking (record (where_stand (at_start ∷ []) []) { shown = (k_fact a ∷ []) ∷ [] })
      (Using (codes "In_") (x_is a ∷ []))
      (record { facts = []; known = []; made = []; unnamed = ended_with a ∷ []; shown = (k_fact a ∷ []) ∷ (input_fact a ∷ []) ∷ [] })
  -- `RepCopy_` takes what stays
  pub copies : IsShortRuleLine bare AnySize copying (where_stand (copies_fact [] [] ∷ []) []) (Using (codes "RepCopy_") [])
      (where_stand (copies_fact [] [] ∷ []) (ended ∷ []))
  -- `Nil_1` names the one use that there is, `Init` that of the start; nothing else happens
  pub names : IsShortRuleLine bare AnySize drawing (where_stand [] (init_use ∷ ended_with (fresh 1) ∷ [])) (Using (codes "Nil_1") [])
      (where_stand [] (init_use ∷ []))
  pub starts : IsShortRuleLine bare AnySize drawing (where_stand [] (init_use ∷ ended_with (fresh 1) ∷ [])) (Using (codes "Init") [])
      (where_stand [] (ended_with (fresh 1) ∷ []))
  -- two uses that are one fit in one way
  pub either : IsShortRuleLine bare AnySize drawing (where_stand [] (ended_with (fresh 1) ∷ ended_with (fresh 1) ∷ []))
      (Using (codes "Nil_1") []) (where_stand [] (ended_with (fresh 1) ∷ []))
  -- `know 'a'` and `name ~5`
  pub shows : IsShortRuleLine bare AnySize taking (where_stand [] []) (Know (term a)) (record (where_stand [] []) { shown = (k_fact a ∷ []) ∷ [] })
  pub takes_name : IsShortRuleLine bare AnySize taking (where_stand [] []) (Name 5)
      (record (where_stand [] []) { known = fresh 5 ∷ []; made = 5 ∷ [] })

-- lines that are refused, in the order of the tests
pub record RefusedByHand : Type 0 where
  pub no_rule : IsShortRuleRefused bare AnySize drawing (where_stand [] []) (Using (codes "New_1") []) (Line line.NoRule)
  -- a variable that stands in no state fact is left out; it stands twice; 'a' is no fresh name
  pub left_out : IsShortRuleRefused bare AnySize drawing (where_stand [] []) (Using (codes "New_") []) (Line line.BadBinding)
  pub twice : IsShortRuleRefused bare AnySize drawing (where_stand [] []) (Using (codes "New_") (s_is (fresh 1) ∷ s_is (fresh 1) ∷ [])) (Line line.BadBinding)
  pub wrong_sort : IsShortRuleRefused bare AnySize drawing (where_stand [] []) (Using (codes "New_") (s_is a ∷ [])) (Line line.BadBinding)
  pub not_its_own : IsShortRuleRefused bare AnySize drawing (where_stand [] []) (Using (codes "Init") (x_is a ∷ [])) (Line line.BadBinding)
  -- nothing fits, or it fits in two ways: uses with ~1 and ~2, or a use with ~1 and a fact with ~2
  pub nothing_fits : IsShortRuleRefused bare AnySize drawing (where_stand [] []) (Using (codes "Nil_1") []) (Line (line.FactMissing 1))
  pub two_uses : IsShortRuleRefused bare AnySize drawing (where_stand [] (ended_with (fresh 1) ∷ ended_with (fresh 2) ∷ []))
      (Using (codes "Nil_1") []) MoreThanOne
  pub use_and_fact : IsShortRuleRefused bare AnySize drawing (where_stand (with_name 2 ∷ []) (ended_with (fresh 1) ∷ []))
      (Using (codes "Nil_1") []) MoreThanOne
  pub too_large : IsShortRuleRefused bare NoSize drawing (where_stand [] []) (Using (codes "Nil_1") (s_is (fresh 1) ∷ [])) (Line line.TermLarge)
  -- the left side: no fact at place 1, and before the name; the name is used; the message can't be given
  pub no_fact : IsShortRuleRefused bare AnySize drawing (record (where_stand [] []) { made = 1 ∷ [] })
      (Using (codes "New_") (s_is (fresh 1) ∷ [])) (Line (line.FactMissing 1))
  pub name_used : IsShortRuleRefused bare AnySize drawing (record (where_stand (at_start ∷ []) []) { made = 1 ∷ [] })
      (Using (codes "New_") (s_is (fresh 1) ∷ [])) (Line (line.UsedName 1))
  pub not_given : IsShortRuleRefused bare AnySize taking (where_stand (at_start ∷ []) []) (Using (codes "In_") (x_is (fresh 1) ∷ [])) NotDeduced
  -- a restriction is false on what would be shown
  pub breaks : IsShortRuleRefused bare AnySize testing (where_stand (at_start ∷ []) []) (Using (codes "Then_") []) (Broken which.Eq)
  -- no such use is there to be named; the start was named
  pub other_use : IsShortRuleRefused bare AnySize drawing (where_stand [] (ended_with (fresh 1) ∷ [])) (Using (codes "Nil_1") (s_is (fresh 2) ∷ []))
      (Line (line.FactMissing 1))
  pub starts_again : IsShortRuleRefused bare AnySize drawing (where_stand [] []) (Using (codes "Init") []) (Broken which.Init)
  -- of `know` and `name`
  pub bad_term : IsShortRuleRefused bare AnySize taking (where_stand [] []) (Know (term unheld)) BadTerm
  pub not_bad : ¬ IsShortRuleRefused bare AnySize taking (where_stand [] []) (Know (term a)) BadTerm
  pub not_known : IsShortRuleRefused bare AnySize taking (where_stand [] []) (Know (term (fresh 1))) NotDeduced
  pub drawn : IsShortRuleRefused bare AnySize taking (record (where_stand [] []) { made = 1 ∷ [] }) (Name 1) (Line (line.UsedName 1))
