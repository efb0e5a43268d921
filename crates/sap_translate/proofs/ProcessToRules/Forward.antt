-- The rules answer each run: step by step, by the law that each step is answered.
use Rattle.sap_translate.proofs.Premises.LowerLaws.{Laws}
use Rattle.sap_translate.specs.Members.{Member}
use Rattle.sap_translate.specs.relation.Shown.{SeesAll}
use Rattle.sap_translate.proofs.Shared.Lookups.{member_last, member_left, member_right, member_cases, in_left, in_right, only_member}
use Rattle.sap_translate.proofs.Related.Every.{every}
use Rattle.sap_translate.proofs.Related.Starts.{starts}
use Rattle.sap_translate.proofs.Terms.Derive.{contains, member}
use Rattle.sap_translate.proofs.Traces.Visible.{admitted_by_count}
use Rattle.sap_translate.specs.Sound.{IsSound}
use Rattle.sap_templates.specs.Templates.{rules_of}
use Rattle.sap_translate.specs.relation.Answers.{AtRest}
use Rattle.sap_translate.specs.relation.ProcessMoves.{drawn_by, process_move}
use Rattle.sap_translate.specs.relation.Agents.{Agent}
use Rattle.sap_translate.specs.relation.Totals.{total}
use Rattle.sap_process.specs.Configuration.{Config, initial, IsUnused}
use Rattle.sap_process.specs.Proc.{Proc}
use Rattle.sap_process.specs.ProcessSteps.{ProcessStep, ProcessRun}
use Rattle.sap_rule.specs.RuleSteps.{RuleState}
use Rattle.sap_terms.specs.Signature.{Sig, HoldsBuiltins}
use Rattle.sap_terms.specs.Trace.{Trace, shown}
use Rattle.sap_terms.specs.declared.fact.Fact.{Fact}
use Rattle.std.proofs.Common.{ℕ, List, [], ◌∷◌, ◌++◌, Option, ◌∙◌, arith, sym, subst, append-nil, ◌<◌, ◌≤◌, ◌+◌}

-- who a name that the rules drew is for: a process, the adversary, or a lock or a tag
data Drawn (B : ℕ) (made own : List ℕ) (n : ℕ) : Type 0 where
  by_process : Member n made → Drawn B made own n
  by_adversary : Member n own → Drawn B made own n
  above : B ≤ n → Drawn B made own n

-- both sides rest, and the names drawn for locks and tags are not below B
record Answered (sig : Sig) (start : Proc) (B : ℕ) (c : Config) (tr : Trace) : Type 0 where
  agents : List (Option Agent)
  s : RuleState
  full : Trace
  rest : AtRest sig start agents c tr s full
  drawn : (n : ℕ) → Member n s.made → Drawn B c.made c.own n

-- a name that is large enough, and not among these
member_le : (k : ℕ) (xs : List ℕ) → Member k xs → k ≤ total (λ x. x) xs
member_le k [] m = elim m [ ]
member_le k (x ∷ xs) Member.here = omega arith
member_le k (x ∷ xs) (Member.later m) = let h = member_le k xs m in omega arith

spare : ℕ → List ℕ → ℕ
spare B xs = B + (total (λ x. x) xs + 1)

spare_above : (B : ℕ) (xs : List ℕ) → B ≤ spare B xs
unfolding spare
spare_above B xs = omega arith

spare_new : (B : ℕ) (xs : List ℕ) → Member (spare B xs) xs → ⊥
unfolding spare
spare_new B xs m = let h = member_le (B + (total (λ x. x) xs + 1)) xs m in absurd (omega arith)

-- the names that a run makes, for processes and the adversary
run_names : {sig : Sig} {o c : Config} {tr : Trace} → ProcessRun sig o c tr → List ℕ
run_names ProcessRun.starts = []
run_names (ProcessRun.further run step) = run_names run ++ drawn_by (process_move step)

more_made : (B : ℕ) (made own : List ℕ) (n k : ℕ) → Drawn B made own k → Drawn B (made ++ n ∷ []) own k
more_made B made own n k d = elim d [ by_process a ↦ by_process (member_left (n ∷ []) a) | by_adversary b ↦ by_adversary b | above h ↦ above h ]

more_own : (B : ℕ) (made own : List ℕ) (n k : ℕ) → Drawn B made own k → Drawn B made (own ++ n ∷ []) k
more_own B made own n k d = elim d [ by_process a ↦ by_process a | by_adversary b ↦ by_adversary (member_left (n ∷ []) b) | above h ↦ above h ]

-- what was drawn is drawn behind a step too, and so is what the step draws
still_drawn : (B : ℕ) {sig : Sig} {c d : Config} {label : List Fact} (step : ProcessStep sig c label d) (k : ℕ) → Drawn B c.made c.own k → Drawn B d.made d.own k
still_drawn B {c = c} (ProcessStep.makes_name t n e u) k h = more_made B c.made c.own n k h
still_drawn B {c = c} (ProcessStep.adversary_makes n u) k h = more_own B c.made c.own n k h
still_drawn B (ProcessStep.ends t e) k h = h
still_drawn B (ProcessStep.splits t e) k h = h
still_drawn B (ProcessStep.copies t e) k h = h
still_drawn B (ProcessStep.outputs t e f) k h = h
still_drawn B (ProcessStep.outputs_on t e f i j) k h = h
still_drawn B (ProcessStep.inputs t σ e i j) k h = h
still_drawn B (ProcessStep.inputs_on t σ e i j l) k h = h
still_drawn B (ProcessStep.meets s r σ e f i j) k h = h
still_drawn B (ProcessStep.agrees t e i) k h = h
still_drawn B (ProcessStep.differs t e i) k h = h
still_drawn B (ProcessStep.shows t e i) k h = h
still_drawn B (ProcessStep.inserts t e f i) k h = h
still_drawn B (ProcessStep.deletes t e f) k h = h
still_drawn B (ProcessStep.finds t e f i) k h = h
still_drawn B (ProcessStep.misses t e f i) k h = h
still_drawn B (ProcessStep.locks t e f i) k h = h
still_drawn B (ProcessStep.unlocks t e f) k h = h
still_drawn B (ProcessStep.embeds t ks σ left acts right e i j l m n) k h = h
still_drawn B (ProcessStep.knows x i) k h = h

-- a name that a step draws: nobody has it before, and somebody has it behind
record New (c : Config) (made own : List ℕ) (k : ℕ) : Type 0 where
  unused : IsUnused c k
  drawn : (B : ℕ) → Drawn B made own k

new_names : {sig : Sig} {c d : Config} {label : List Fact} (step : ProcessStep sig c label d) (k : ℕ) → Member k (drawn_by (process_move step)) → New c d.made d.own k
new_names {c = c} (ProcessStep.makes_name t n e u) k m = subst (λ i. New c (c.made ++ n ∷ []) c.own i) (sym (only_member m)) (record { unused = u; drawn = λ B. by_process (member_last c.made n) })
new_names {c = c} (ProcessStep.adversary_makes n u) k m = subst (λ i. New c c.made (c.own ++ n ∷ []) i) (sym (only_member m)) (record { unused = u; drawn = λ B. by_adversary (member_last c.own n) })
new_names (ProcessStep.ends t e) k m = elim m [ ]
new_names (ProcessStep.splits t e) k m = elim m [ ]
new_names (ProcessStep.copies t e) k m = elim m [ ]
new_names (ProcessStep.outputs t e f) k m = elim m [ ]
new_names (ProcessStep.outputs_on t e f i j) k m = elim m [ ]
new_names (ProcessStep.inputs t σ e i j) k m = elim m [ ]
new_names (ProcessStep.inputs_on t σ e i j l) k m = elim m [ ]
new_names (ProcessStep.meets s r σ e f i j) k m = elim m [ ]
new_names (ProcessStep.agrees t e i) k m = elim m [ ]
new_names (ProcessStep.differs t e i) k m = elim m [ ]
new_names (ProcessStep.shows t e i) k m = elim m [ ]
new_names (ProcessStep.inserts t e f i) k m = elim m [ ]
new_names (ProcessStep.deletes t e f) k m = elim m [ ]
new_names (ProcessStep.finds t e f i) k m = elim m [ ]
new_names (ProcessStep.misses t e f i) k m = elim m [ ]
new_names (ProcessStep.locks t e f i) k m = elim m [ ]
new_names (ProcessStep.unlocks t e f) k m = elim m [ ]
new_names (ProcessStep.embeds t ks σ left acts right e i j l p n) k m = elim m [ ]
new_names (ProcessStep.knows x i) k m = elim m [ ]

-- one step more
further : (laws : Laws) → {sig : Sig} {start : Proc} {c d : Config} {tr : Trace} {label : List Fact} (B : ℕ) → HoldsBuiltins sig → IsSound sig start → (w : Answered sig start B c tr) (step : ProcessStep sig c label d) → ((k : ℕ) → Member k (drawn_by (process_move step)) → k < B) → Answered sig start B d (tr ++ shown label)
further laws {sig} {start = start} {c = c} {d = d} {tr = tr} {label = label} B hold fine w step low =
    let n : ℕ = spare B w.s.made in
    let names : List ℕ = drawn_by (process_move step) in
    let a = every laws sig start hold fine.0 w.agents c tr w.s w.full w.rest label d step n (λ k i j. new_one k (new_names step k (member k names i)) (low k (member k names i)) (w.drawn k (member k w.s.made j))) (λ i. spare_new B w.s.made (member n w.s.made i)) in
    record { agents = a.agents; s = a.state; full = w.full ++ a.more; rest = a.rest; drawn = λ k m. drawn_later k (member k (w.s.made ++ (names ++ n ∷ [])) (a.made k (contains m))) }
  where
    new_one : (k : ℕ) → New c d.made d.own k → k < B → Drawn B c.made c.own k → ⊥
    new_one k new lt h = elim h [ by_process a ↦ new.unused.0 (contains a) | by_adversary b ↦ new.unused.1 (contains b) | above le ↦ absurd (omega arith) ]

    drawn_later : (k : ℕ) → Member k (w.s.made ++ (drawn_by (process_move step) ++ spare B w.s.made ∷ [])) → Drawn B d.made d.own k
    drawn_later k m = elim (member_cases w.s.made (drawn_by (process_move step) ++ spare B w.s.made ∷ []) m) [
      | in_left a ↦ still_drawn B step k (w.drawn k a)
      | in_right b ↦ elim (member_cases (drawn_by (process_move step)) (spare B w.s.made ∷ []) b) [ in_left i ↦ (new_names step k i).drawn B | in_right j ↦ above (subst (λ i. B ≤ i) (sym (only_member j)) (spare_above B w.s.made)) ]
    ]

answered : (laws : Laws) → {sig : Sig} {start : Proc} {c : Config} {tr : Trace} (B : ℕ) → HoldsBuiltins sig → IsSound sig start → (run : ProcessRun sig (initial start) c tr) → ((k : ℕ) → Member k (run_names run) → k < B) → Answered sig start B c tr
unfolding run_names
answered laws {sig} {start = start} B hold fine ProcessRun.starts low = record { agents = _; s = _; full = _; rest = (starts laws) sig start fine.1; drawn = λ n m. elim m [ ] }
answered laws B hold fine (ProcessRun.further run step) low = further laws B hold fine ((answered laws) B hold fine run (λ k m. low k (member_left (drawn_by (process_move step)) m))) step (λ k m. low k (member_right (run_names run) m))

pub shows_all : (laws : Laws) → (sig : Sig) (start : Proc) → HoldsBuiltins sig → IsSound sig start → SeesAll sig start (rules_of start)
shows_all laws sig start hold fine tr h =
    let names : List ℕ = run_names h.1 in
    let w = (answered laws) (total (λ x. x) names + 1) hold fine h.1 (λ k m. let le = member_le k names m in omega arith) in
    let once = w.rest.related.init in
    (w.s, w.full, w.rest.ran, record { init = admitted_by_count w.full (omega arith); demands = w.rest.related.traces.demands }, w.rest.related.traces.shows ∙ append-nil tr)
