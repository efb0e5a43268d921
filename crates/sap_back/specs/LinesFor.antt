-- Which lines of the process stand opposite to each line of its rules, with the numbers that they have there.
use Rattle.std.specs.Prelude.{◌≡◌, ◌+◌, ℕ, List, [], ◌∷◌, ◌++◌, Option, Some, None, codes, length, map, slice_get}
use Rattle.sap_terms.specs.Trace.{Trace}
use Rattle.sap_terms.specs.declared.binding.Binding.{Binding}
use Rattle.sap_terms.specs.declared.fact.Fact.{Fact}
use Rattle.sap_rule.specs.Named.{rule_named}
use Rattle.sap_rule.specs.declared.rule.Rule.{Rule}
use Rattle.sap_runs.specs.declared.process_step.PStep.{PStep}
use Rattle.sap_runs.specs.declared.process_step.PStep.TheVariants as line
use Rattle.sap_runs.specs.declared.rule_step.RStep.{RStep}
use Rattle.sap_runs.specs.declared.rule_step.RStep.TheVariants.{Fresh, Learn, Own, Public, Apply, Know, Rule as RuleLine}
pub use Rattle.sap_rule_lines.specs.RuleLines.{uses}
pub use Rattle.sap_process_lines.specs.Pending.{pending_lines}
use Rattle.sap_process_lines.specs.Tables.{ProcessTables, come, with_thread, with_known, with_pile, enters, waiting, first_process_tables}

-- those that a line of rules which shows this has written first: none where it shows nothing
abbrev pub lines_before : List Fact → Option ℕ → List PStep
lines_before [] k = []
lines_before (f ∷ fs) k = pending_lines k

-- what is pending behind it
abbrev pub left_pending : {A : Type 0} → List Fact → Option A → Option A
left_pending [] k = k
left_pending (f ∷ fs) k = None

-- how many facts the rule has on its right side, where there is one
abbrev pub right_count : Option Rule → ℕ
right_count None = 0
right_count (Some r) = length r.right

-- how many facts come with a line: those of its rule's right side; Fr of a name, or In of what is given; else none
abbrev pub facts_added : List Rule → RStep → ℕ
facts_added rules (Fresh n) = 1
facts_added rules (Learn k) = 0
facts_added rules (Own k) = 0
facts_added rules (Public a) = 0
facts_added rules (Apply f ks) = 0
facts_added rules (Know k) = 1
facts_added rules (RuleLine name ks b) = right_count (rule_named rules name)

-- The tables before a line of rules, how many facts have come behind it, the line and what it shows, the lines of the process that
-- stand opposite to it, and the tables behind: no line, one, or one before which what was pending was written. The tables have a number
-- for each fact and for each entry of the rules that has come, and it stays: the line is that of the thread which the fact that is cited
-- first stands for, and names the entries that the entries are which it cites. A thread, an entry or a fact of the process that is new
-- has the next number. What the line of rules names, a public name, a symbol, the bindings of an embedded rule, they name too.
pub data AreProcessLinesFor (tables : ProcessTables) (count : ℕ) : RStep → List Fact → List PStep → ProcessTables → Type 0 where
  -- the rules start, a replication starts, a message comes under way, its sender goes on: none
  starts : {acts : List Fact} (b : List Binding)
      → AreProcessLinesFor tables count (RuleLine (codes "Init") [] b) acts [] (come tables (0 ∷ []))
  starts_copies : {acts : List Fact} (t k : ℕ) (path ks : List ℕ) (b : List Binding)
      → slice_get tables.facts k ≡ Some t
      → AreProcessLinesFor tables count (uses (codes "RepStart_") path (k ∷ ks) b) acts [] (come tables (t ∷ []))
  sends : {acts : List Fact} (t k : ℕ) (path ks : List ℕ) (b : List Binding)
      → slice_get tables.facts k ≡ Some t
      → AreProcessLinesFor tables count (uses (codes "OutMsg_") path (k ∷ ks) b) acts [] (come tables (t ∷ t ∷ []))
  goes_on : {acts : List Fact} (t k : ℕ) (path ks : List ℕ) (b : List Binding)
      → slice_get tables.facts k ≡ Some t
      → AreProcessLinesFor tables count (uses (codes "OutAck_") path (k ∷ ks) b) acts [] (come tables (t ∷ []))
  ends : {acts : List Fact} (t k : ℕ) (path ks : List ℕ) (b : List Binding)
      → slice_get tables.facts k ≡ Some t
      → AreProcessLinesFor tables count (uses (codes "Nil_") path (k ∷ ks) b) acts (line.Nil t ∷ []) tables
  -- what stands right is a new thread
  splits : {acts : List Fact} (t k : ℕ) (path ks : List ℕ) (b : List Binding)
      → slice_get tables.facts k ≡ Some t
      → AreProcessLinesFor tables count (uses (codes "Par_") path (k ∷ ks) b) acts (line.Par t ∷ [])
      (with_thread (come tables (t ∷ tables.threads ∷ [])))
  -- and so is a copy
  copies : {acts : List Fact} (t k : ℕ) (path ks : List ℕ) (b : List Binding)
      → slice_get tables.facts k ≡ Some t
      → AreProcessLinesFor tables count (uses (codes "RepCopy_") path (k ∷ ks) b) acts (line.Rep t ∷ [])
      (with_thread (come tables (tables.threads ∷ [])))
  -- the name is that of the Fr that is cited second
  makes_name : {acts : List Fact} (t k n j : ℕ) (path ks : List ℕ) (b : List Binding)
      → slice_get tables.facts k ≡ Some t → slice_get tables.facts j ≡ Some n
      → AreProcessLinesFor tables count (uses (codes "New_") path (k ∷ j ∷ ks) b) acts (line.New t n ∷ [])
      (come tables (t ∷ []))
  -- what is put out is a new entry
  outputs : {acts : List Fact} (t k : ℕ) (path ks : List ℕ) (b : List Binding)
      → slice_get tables.facts k ≡ Some t
      → AreProcessLinesFor tables count (uses (codes "Out_") path (k ∷ ks) b) acts (line.Out t ∷ [])
      (with_known (come tables (tables.known ∷ t ∷ [])))
  -- what is pending is the channel, or the message
  outputs_on : {acts : List Fact} (t k e : ℕ) (path ks : List ℕ) (b : List Binding)
      → slice_get tables.facts k ≡ Some t → tables.pending ≡ Some e
      → AreProcessLinesFor tables count (uses (codes "OutAdv_") path (k ∷ ks) b) acts (line.Send t e ∷ [])
      (waiting (with_known (come tables (tables.known ∷ t ∷ []))) None)
  inputs : {acts : List Fact} (t k e : ℕ) (path ks : List ℕ) (b : List Binding)
      → slice_get tables.facts k ≡ Some t → tables.pending ≡ Some e
      → AreProcessLinesFor tables count (uses (codes "In_") path (k ∷ ks) b) acts (line.In t e ∷ [])
      (waiting (come tables (t ∷ [])) None)
  inputs_on : {acts : List Fact} (t k e : ℕ) (path ks : List ℕ) (b : List Binding)
      → slice_get tables.facts k ≡ Some t → tables.pending ≡ Some e
      → AreProcessLinesFor tables count (uses (codes "InAdv_") path (k ∷ ks) b) acts (line.In t e ∷ [])
      (waiting (come tables (t ∷ [])) None)
  -- the sender is the thread of the message that is cited second
  meets : {acts : List Fact} (a t k j : ℕ) (path ks : List ℕ) (b : List Binding)
      → slice_get tables.facts k ≡ Some t → slice_get tables.facts j ≡ Some a
      → AreProcessLinesFor tables count (uses (codes "InMsg_") path (k ∷ j ∷ ks) b) acts (line.Sync a t ∷ [])
      (come tables (a ∷ t ∷ []))
  shows : {acts : List Fact} (t k : ℕ) (path ks : List ℕ) (b : List Binding)
      → slice_get tables.facts k ≡ Some t
      → AreProcessLinesFor tables count (uses (codes "Event_") path (k ∷ ks) b) acts
      (pending_lines tables.pending ++ line.Event t ∷ []) (waiting (come tables (t ∷ [])) None)
  inserts : {acts : List Fact} (t k : ℕ) (path ks : List ℕ) (b : List Binding)
      → slice_get tables.facts k ≡ Some t
      → AreProcessLinesFor tables count (uses (codes "Insert_") path (k ∷ ks) b) acts (line.Insert t ∷ []) (come tables (t ∷ []))
  deletes : {acts : List Fact} (t k : ℕ) (path ks : List ℕ) (b : List Binding)
      → slice_get tables.facts k ≡ Some t
      → AreProcessLinesFor tables count (uses (codes "Delete_") path (k ∷ ks) b) acts (line.Delete t ∷ []) (come tables (t ∷ []))
  locks : {acts : List Fact} (t k : ℕ) (path ks : List ℕ) (b : List Binding)
      → slice_get tables.facts k ≡ Some t
      → AreProcessLinesFor tables count (uses (codes "Lock_") path (k ∷ ks) b) acts (line.Lock t ∷ []) (come tables (t ∷ []))
  unlocks : {acts : List Fact} (t k : ℕ) (path ks : List ℕ) (b : List Binding)
      → slice_get tables.facts k ≡ Some t
      → AreProcessLinesFor tables count (uses (codes "Unlock_") path (k ∷ ks) b) acts (line.Unlock t ∷ []) (come tables (t ∷ []))
  agrees : {acts : List Fact} (t k : ℕ) (path ks : List ℕ) (b : List Binding)
      → slice_get tables.facts k ≡ Some t
      → AreProcessLinesFor tables count (uses (codes "Then_") path (k ∷ ks) b) acts (line.Then t ∷ []) (come tables (t ∷ []))
  differs : {acts : List Fact} (t k : ℕ) (path ks : List ℕ) (b : List Binding)
      → slice_get tables.facts k ≡ Some t
      → AreProcessLinesFor tables count (uses (codes "Else_") path (k ∷ ks) b) acts (line.Else t ∷ []) (come tables (t ∷ []))
  finds : {acts : List Fact} (t k : ℕ) (path ks : List ℕ) (b : List Binding)
      → slice_get tables.facts k ≡ Some t
      → AreProcessLinesFor tables count (uses (codes "Found_") path (k ∷ ks) b) acts (line.Found t ∷ []) (come tables (t ∷ []))
  misses : {acts : List Fact} (t k : ℕ) (path ks : List ℕ) (b : List Binding)
      → slice_get tables.facts k ≡ Some t
      → AreProcessLinesFor tables count (uses (codes "Missing_") path (k ∷ ks) b) acts (line.Missing t ∷ []) (come tables (t ∷ []))
  -- Where it shows nothing, what is pending stays so. Behind the fact of the thread, the facts that come are new facts of the process.
  embeds : {acts : List Fact} (t k many : ℕ) (js taken path : List ℕ) (b : List Binding)
      → slice_get tables.facts k ≡ Some t → map (slice_get tables.facts) js ≡ map Some taken
      → count ≡ length tables.facts + 1 + many
      → AreProcessLinesFor tables count (uses (codes "Rule_") path (k ∷ js) b) acts
      (lines_before acts tables.pending ++ line.Embedded t taken b ∷ [])
      (waiting (with_pile tables t many) (left_pending acts tables.pending))
  -- Fr is made, or the adversary learns what was put out: none
  makes : {acts : List Fact} (n : ℕ) → AreProcessLinesFor tables count (Fresh n) acts [] (come tables (n ∷ []))
  learns : {acts : List Fact} (k e : ℕ) → slice_get tables.facts k ≡ Some e
      → AreProcessLinesFor tables count (Learn k) acts [] (enters tables e)
  owns : {acts : List Fact} (k n : ℕ) → slice_get tables.facts k ≡ Some n
      → AreProcessLinesFor tables count (Own k) acts (line.Name n ∷ []) (with_known (enters tables tables.known))
  writes : {acts : List Fact} (a : List ℕ)
      → AreProcessLinesFor tables count (Public a) acts (line.Public a ∷ []) (with_known (enters tables tables.known))
  applies : {acts : List Fact} (f ks js : List ℕ) → map (slice_get tables.entries) ks ≡ map Some js
      → AreProcessLinesFor tables count (Apply f ks) acts (line.Apply f js ∷ []) (with_known (enters tables tables.known))
  -- what was pending is written; the entry that is given now is pending
  knows : {acts : List Fact} (k e : ℕ) → slice_get tables.entries k ≡ Some e
      → AreProcessLinesFor tables count (Know k) acts (pending_lines tables.pending)
      (waiting (come tables (0 ∷ [])) (Some e))

-- For each line of these rules in turn, with what it shows, its lines, from the tables before the first on to those behind the last.
pub data AreProcessLinesForAll (rules : List Rule) : ProcessTables → List RStep → Trace → List PStep → ProcessTables → Type 0 where
  no_lines : {tables : ProcessTables} → AreProcessLinesForAll rules tables [] [] [] tables
  more : {tables next last : ProcessTables} {step : RStep} {acts : List Fact} {own : List PStep}
      {rule_lines : List RStep} {full : Trace} {rest : List PStep}
      → AreProcessLinesFor tables (length tables.facts + facts_added rules step) step acts own next
      → AreProcessLinesForAll rules next rule_lines full rest last
      → AreProcessLinesForAll rules tables (step ∷ rule_lines) (acts ∷ full) (own ++ rest) last

-- The lines stand in turn, those for each line of rules with its full trace, from the first tables on, and behind them what is still
-- pending. So a `know` stands where the next K is shown, before an event or an embedded rule that shows facts, or at the end, unless an
-- input took it. At most these lines do (`one_converted_run`).
pub record ProcessLinesStandInTurn (rules : List Rule) (rule_lines : List RStep) (full : Trace) (lines : List PStep) : Type 0 where
  pub own : List PStep
  pub last : ProcessTables
  pub each : AreProcessLinesForAll rules first_process_tables rule_lines full own last
  pub is : lines ≡ own ++ pending_lines last.pending
