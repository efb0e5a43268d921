-- How lines of a process go along with one line more of its rules.
use Rattle.std.proofs.Common.{◌≡◌, ℕ, ◌+◌, ◌≤◌, List, [], ◌∷◌, ◌++◌, Option, Some, None, refl, sym, ap, ◌∙◌, subst, arith, slice_get, length, append-nil, append_assoc}
use Rattle.std.specs.Prelude.{Contains}
use Rattle.std.specs.List.{filter_map}
use Rattle.std.proofs.lemmas.Grind.{flat_map-append}
use Rattle.sap_terms.specs.AdversaryFacts.{k_fact}
use Rattle.sap_terms.specs.Signature.{Sig}
use Rattle.sap_terms.specs.Trace.{Trace, shown}
use Rattle.sap_terms.specs.Tree.{Tree}
use Rattle.sap_terms.specs.declared.fact.Fact.{Fact}
use Rattle.sap_rewrite.specs.Laws.{FormIsOne, FormsDecide}
use Rattle.sap_formula.specs.Hide.{visible}
use Rattle.sap_process.specs.Configuration.{Config}
use Rattle.sap_process.specs.Proc.{Proc}
use Rattle.sap_process.specs.ProcessSteps.{ProcessStep}
use Rattle.sap_rule.specs.RuleSteps.{RuleState}
use Rattle.sap_runs.specs.Inner.{InnerAction}
use Rattle.sap_runs.specs.Marks.{marks_of}
use Rattle.sap_runs.specs.declared.process_step.PStep.{PStep}
use Rattle.sap_runs.specs.declared.process_step.PStep.TheVariants as line
use Rattle.sap_lines.specs.Lines.{IsProcessLine}
use Rattle.sap_lines.specs.Runs.{IsLegalProcessRun}
use Rattle.sap_steps.specs.Inner.{inner_of}
use Rattle.sap_steps.specs.Marks.{marks}
use Rattle.sap_translate.specs.relation.Agents.{Agent}
use Rattle.sap_translate.specs.relation.Follows.{Together, Follows, Waits, written}
use Rattle.sap_translate.specs.relation.ProcessMoves as move
use Rattle.sap_translate.specs.relation.ProcessMoves.{ProcessMove, ProcessMoves, IsProcessMove, process_move}
use Rattle.sap_translate.specs.relation.Related.{pending_place}
use Rattle.sap_back.specs.Followed.{IsWrittenAsProcess, pending_lines}
use Rattle.sap_process_lines.specs.Tables.{ProcessTables}
use Rattle.sap_back.specs.Tables.{IsPending}
use Rattle.sap_terms.specs.declared.binding.Binding.{Binding}
use Rattle.sap_runs.specs.declared.rule_step.RStep.{RStep}
use Rattle.sap_back.specs.Along.{IsAlong, SentWithin, count_pending}
use Rattle.sap_back.proofs.Effects.{Effect, IsContinued}
use Rattle.sap_back.proofs.Lines.{Grows, Heads, LineOf, line_of, line_for}

pub marks_join : (full more : Trace) → marks (full ++ more) ≡ marks full ++ marks more
marks_join full more = flat_map-append (λ acts. marks_of (filter_map inner_of acts) (visible acts)) full more

pub length_push : {A : Type 0} (xs : List A) (x : A) → length (xs ++ x ∷ []) ≡ length xs + 1
length_push [] x = refl
length_push (y ∷ xs) x = let h = length_push xs x in omega arith

-- a move alone
pub record OneMove (g : Sig) (c : Config) (m : ProcessMove) (shows : Trace) (d : Config) : Type 0 where
  pub label : List Fact
  pub is : IsProcessMove g c m label d
  pub showing : shows ≡ shown label

pub one_move : (g : Sig) (c d : Config) (m : ProcessMove) (shows : Trace) → ProcessMoves g c (m ∷ []) shows d → OneMove g c m shows d
one_move g c d m shows (ProcessMoves.further {label = label} h ProcessMoves.stays) = record { label = label; is = h; showing = append-nil (shown label) }

known_step : (g : Sig) (c : Config) (x : Tree) {l : List Fact} {e : Config} (step : ProcessStep g c l e) → process_move step ≡ move.knows x → (l ≡ k_fact x ∷ []) × (e ≡ c)
known_step g c x (ProcessStep.knows y can) e = let same : y ≡ x = cc in (ap (λ t. k_fact t ∷ []) same, refl)
known_step g c x step e = absurd (cc)

later_same : (f g : List Fact) (t u : Trace) → ◌≡◌ {A = Trace} (f ∷ t) (g ∷ u) → t ≡ u
later_same f g t u e = cc

behind_known : (g : Sig) (c d : Config) (m : ProcessMove) (x : Tree) (shows : Trace) (ms : List ProcessMove) (tr : Trace) → ms ≡ move.knows x ∷ m ∷ [] → tr ≡ (k_fact x ∷ []) ∷ shows → ProcessMoves g c ms tr d → OneMove g c m shows d
behind_known g c d m x shows ms tr e f ProcessMoves.stays = absurd (cc)
behind_known g c d m x shows ms tr e f (ProcessMoves.further {d = mid} {move = n} {label = label} {moves = moves} {tr = later} k more) =
    let first : n ≡ move.knows x = cc in
    let others : moves ≡ m ∷ [] = cc in
    let is = known_step g c x k.step (k.chooses ∙ first) in
    let shows_is : later ≡ shows = later_same (k_fact x ∷ []) (k_fact x ∷ []) later shows (ap (λ l. shown l ++ later) (sym is.0) ∙ f) in
    one_move g c d m shows (subst (λ t. ProcessMoves g c (m ∷ []) t d) shows_is (subst (λ z. ProcessMoves g c z later d) others (subst (λ z. ProcessMoves g z moves later d) is.1 more)))

-- a move behind what is pending
pub after_pending : (g : Sig) (c d : Config) (m : ProcessMove) (pending : Option Tree) (shows : Trace) → ProcessMoves g c (written pending ++ m ∷ []) (pending_place pending ++ shows) d → OneMove g c m shows d
after_pending g c d m None shows h = one_move g c d m shows h
after_pending g c d m (Some x) shows h = behind_known g c d m x shows (move.knows x ∷ m ∷ []) ((k_fact x ∷ []) ∷ shows) refl refl h

k_same : (x y : Tree) → k_fact x ∷ [] ≡ k_fact y ∷ [] → x ≡ y
k_same x y e = let k : (k_fact x).args ≡ (k_fact y).args = (let f : k_fact x ≡ k_fact y = cc in ap (λ (z : Fact). z.args) f) in cc

some_same : (x y : Tree) → Some x ≡ Some y → x ≡ y
some_same x y e = cc

no_k : (x : Tree) → [] ≡ k_fact x ∷ [] → ⊥
no_k x e = cc

silent_label : (label : List Fact) → [] ≡ shown label → label ≡ []
silent_label [] e = refl
silent_label (f ∷ fs) e = absurd (cc)

this_label : (f : Fact) (fs label : List Fact) → (f ∷ fs) ∷ [] ≡ shown label → label ≡ f ∷ fs
this_label f fs [] e = absurd (cc)
this_label f fs (h ∷ hs) e = let s : h ∷ hs ≡ f ∷ fs = cc in s

-- these more lines, which lead to this configuration, go along with the state and the full trace behind; what entries come was sent
pub record GoesOn (g : Sig) (W : Tree → Type 0) (start : Proc) (next : List (Option Agent)) (later : Option Tree) (lines more : List PStep) (c : Config) (es : List Tree) (d : Config) (z : RuleState) (full : Trace) : Type 0 where
  pub entries : List Tree
  pub trace : Trace
  pub grows : Grows c es d entries
  pub is : IsAlong g W start next later (lines ++ more) d entries trace z full

-- these lines are written for the line of rules, and have the effect that goes with it
abbrev pub Carries : (g : Sig) (agents : List (Option Agent)) (pending : Option Tree) (c : Config) (es : List Tree) (s : RuleState) (tables : ProcessTables) (step : RStep) (acts : List Fact) (more : List PStep) (next : List (Option Agent)) (later : Option Tree) (behind : ProcessTables) (d : Config) (z : RuleState) → Type 0
Carries g agents pending c es s tables step acts more next later behind d z =
    (is : IsWrittenAsProcess g agents pending s tables step acts more next later behind) × ((fs : List Tree) → Grows c es d fs → Effect is z c es d fs)

-- nothing is sent
nothing_sent : {c : Config} {es : List Tree} → Grows c es c es
nothing_sent {c = c} {es = es} = record { come = []; entries = sym (append-nil es); frame = sym (append-nil c.frame) }

module _ (g : Sig) (W : Tree → Type 0) (start : Proc) where
  -- lines with room for n more
  pub record Before (n : ℕ) (lines : List PStep) (c : Config) (es : List Tree) (tr : Trace) (s : RuleState) (full : Trace) : Type 0 where
    pub legal : IsLegalProcessRun g W start lines c es tr (marks full)
    pub sent : (x : Tree) → Contains c.frame x → Contains es x
    pub known : (x : Tree) → Contains s.known x → Contains es x
    pub short : length lines + n ≤ length full

  -- all agents' terms are within the limit
  abbrev pub AllWithin : List (Option Agent) → Type 0
  AllWithin agents = (t : ℕ) (a : Agent) → slice_get agents t ≡ Some (Some a) → SentWithin g W a

  module _ (agents : List (Option Agent)) (pending : Option Tree) (lines : List PStep) (c : Config) (es : List Tree) (tr : Trace) (s : RuleState) (full : Trace) (w : IsAlong g W start agents pending lines c es tr s full) where
    pub unwritten : Before (count_pending pending) lines c es tr s full
    unwritten = record { legal = w.legal; sent = w.sent; known = w.known; short = w.short }

  -- what is pending is written
  pub pending_written : (agents : List (Option Agent)) (pending : Option Tree) (k : Option ℕ) (lines : List PStep) (c : Config) (es : List Tree) (tr : Trace) (s : RuleState) (full : Trace) → IsPending es pending k → IsAlong g W start agents pending lines c es tr s full
      → Before 0 (lines ++ pending_lines k) c es (tr ++ pending_place pending) s full
  pending_written agents None k lines c es tr s full none w = record {
    legal = subst (λ ls. IsLegalProcessRun g W start ls c es (tr ++ []) (marks full)) (sym (append-nil lines) ∙ ap (λ i. lines ++ pending_lines i) (sym none)) (subst (λ t. IsLegalProcessRun g W start lines c es t (marks full)) (sym (append-nil tr)) w.legal);
    sent = w.sent;
    known = w.known;
    short = let h = w.short in let same : length (lines ++ pending_lines k) ≡ length lines = ap (λ i. length (lines ++ pending_lines i)) none ∙ ap length (append-nil lines) in omega arith;
  }
  pending_written agents (Some x) k lines c es tr s full (e, is, at) w = record {
    legal = subst (λ i. IsLegalProcessRun g W start (lines ++ pending_lines i) c es (tr ++ shown (k_fact x ∷ [])) (marks full)) (sym is) (subst (λ m. IsLegalProcessRun g W start (lines ++ line.Know e ∷ []) c es (tr ++ shown (k_fact x ∷ [])) m) (append-nil (marks full))
        (IsLegalProcessRun.further (line.Know e) [] (k_fact x ∷ []) w.legal (IsProcessLine.knows e x at)));
    sent = w.sent;
    known = w.known;
    short = let h = w.short in let n = length_push lines (line.Know e) in let same : length (lines ++ pending_lines k) ≡ length (lines ++ line.Know e ∷ []) = ap (λ i. length (lines ++ pending_lines i)) is in omega arith;
  }

  module _ (n : ℕ) (lines : List PStep) (c : Config) (es : List Tree) (tr : Trace) (s : RuleState) (full : Trace) (b : Before n lines c es tr s full) (agents : List (Option Agent)) (later : Option Tree) (z : RuleState) (acts : List Fact) where
    -- a line of rules without a line of the process
    pub stays : Together g start agents later c tr z (full ++ acts ∷ []) → Waits later (full ++ acts ∷ []) → marks (acts ∷ []) ≡ [] → count_pending later ≤ n + 1 → ((x : Tree) → later ≡ Some x → Contains es x) → ((x : Tree) → Contains z.known x → Contains es x) → AllWithin agents
        → IsAlong g W start agents later lines c es tr z (full ++ acts ∷ [])
    stays together waits none room given known within = record {
      legal = subst (λ m. IsLegalProcessRun g W start lines c es tr m) (sym (marks_join full (acts ∷ []) ∙ ap (λ m. marks full ++ m) none ∙ append-nil (marks full))) b.legal;
      together = together;
      waits = waits;
      sent = b.sent;
      known = known;
      given = given;
      within = within;
      short = let h = b.short in let k = length_push full acts in omega arith;
    }

    -- with one
    pub writes : (step : PStep) (inner : List InnerAction) (label : List Fact) (d : Config) (fs : List Tree) → IsProcessLine g W c es step inner label d fs
        → Together g start agents later d (tr ++ shown label) z (full ++ acts ∷ []) → Waits later (full ++ acts ∷ []) → marks (acts ∷ []) ≡ marks_of inner label → count_pending later ≤ n
        → ((x : Tree) → Contains d.frame x → Contains fs x) → ((x : Tree) → later ≡ Some x → Contains fs x) → ((x : Tree) → Contains z.known x → Contains fs x) → AllWithin agents
        → IsAlong g W start agents later (lines ++ step ∷ []) d fs (tr ++ shown label) z (full ++ acts ∷ [])
    writes step inner label d fs is together waits same room sent given known within = record {
      legal = subst (λ m. IsLegalProcessRun g W start (lines ++ step ∷ []) d fs (tr ++ shown label) m) (sym (marks_join full (acts ∷ []) ∙ ap (λ m. marks full ++ m) same)) (IsLegalProcessRun.further step inner label b.legal is);
      together = together;
      waits = waits;
      sent = sent;
      known = known;
      given = given;
      within = within;
      short = let h = b.short in let k = length_push full acts in let l = length_push lines step in omega arith;
    }

  module _ (one : FormIsOne) (decide : FormsDecide) (agents : List (Option Agent)) (pending : Option Tree) (lines : List PStep) (c : Config) (es : List Tree) (tr : Trace) (s : RuleState) (full : Trace) (w : IsAlong g W start agents pending lines c es tr s full) (b : List Binding) (next : List (Option Agent)) (z : RuleState) (acts : List Fact) where
    -- the process stays
    pub by_none : Follows g start pending c tr full [] [] c pending next z acts → marks (acts ∷ []) ≡ [] → ((x : Tree) → Contains z.known x → Contains es x) → AllWithin next → GoesOn g W start next pending lines [] c es c z (full ++ acts ∷ [])
    by_none f none known within = record {
      entries = es;
      trace = tr;
      grows = nothing_sent;
      is = subst (λ ls. IsAlong g W start next pending ls c es tr z (full ++ acts ∷ [])) (sym (append-nil lines))
          (stays (count_pending pending) lines c es tr s full (unwritten agents pending lines c es tr s full w) next pending z acts (subst (λ t. Together g start next pending c t z (full ++ acts ∷ [])) (append-nil tr) f.together) (f.waits w.waits) none (omega arith) w.given known within);
    }

    -- it makes a move that shows nothing
    pub by_silent : (m : ProcessMove) (inner : List InnerAction) (d : Config) → Follows g start pending c tr full (m ∷ []) [] d pending next z acts → Heads g W c b m inner → marks (acts ∷ []) ≡ marks_of inner [] → z.known ≡ s.known → AllWithin next
        → GoesOn g W start next pending lines (line_for 0 b m ∷ []) c es d z (full ++ acts ∷ [])
    by_silent m inner d f heads same known within =
        let o = one_move g c d m [] f.process in
        let label : o.label ≡ [] = silent_label o.label o.showing in
        let l : LineOf g W c es 0 b m inner o.label d = subst (λ k. LineOf g W c es 0 b k inner o.label d) o.is.chooses (line_of one decide g W c es 0 b inner o.is.step (subst (λ k. Heads g W c b k inner) (sym o.is.chooses) heads) (λ x e. absurd (no_k x (sym label ∙ e)))) in
        record {
          entries = l.entries;
          trace = tr ++ [];
          grows = l.grows;
          is = writes (count_pending pending) lines c es tr s full (unwritten agents pending lines c es tr s full w) next pending z acts (line_for 0 b m) inner [] d l.entries (subst (λ k. IsProcessLine g W c es (line_for 0 b m) inner k d l.entries) label l.is)
              f.together (f.waits w.waits) same (omega arith) (l.sent w.sent) (λ x e. l.keeps x (w.given x e)) (λ x k. l.keeps x (w.known x (subst (λ ts. Contains ts x) known k))) within;
        }

    -- it takes what is pending, which is this entry
    pub by_input : (m : ProcessMove) (x : Tree) (entry : ℕ) (d : Config) → slice_get es entry ≡ Some x → Follows g start pending c tr full (m ∷ []) ((k_fact x ∷ []) ∷ []) d None next z acts → Heads g W c b m [] → marks (acts ∷ []) ≡ [] → z.known ≡ s.known → AllWithin next
        → GoesOn g W start next None lines (line_for entry b m ∷ []) c es d z (full ++ acts ∷ [])
    by_input m x entry d at f heads same known within =
        let o = one_move g c d m ((k_fact x ∷ []) ∷ []) f.process in
        let label : o.label ≡ k_fact x ∷ [] = this_label (k_fact x) [] o.label o.showing in
        let l : LineOf g W c es entry b m [] o.label d = subst (λ k. LineOf g W c es entry b k [] o.label d) o.is.chooses (line_of one decide g W c es entry b [] o.is.step (subst (λ k. Heads g W c b k []) (sym o.is.chooses) heads) (λ y e. at ∙ ap (λ t. Some t) (k_same x y (sym label ∙ e)))) in
        record {
          entries = l.entries;
          trace = tr ++ (k_fact x ∷ []) ∷ [];
          grows = l.grows;
          is = writes (count_pending pending) lines c es tr s full (unwritten agents pending lines c es tr s full w) next None z acts (line_for entry b m) [] (k_fact x ∷ []) d l.entries (subst (λ k. IsProcessLine g W c es (line_for entry b m) [] k d l.entries) label l.is)
              f.together (f.waits w.waits) same (omega arith) (l.sent w.sent) (λ y e. absurd (cc)) (λ y k. l.keeps y (w.known y (subst (λ ts. Contains ts y) known k))) within;
        }

    -- it shows what is pending, and then this
    pub by_event : (k : Option ℕ) (m : ProcessMove) (h : Fact) (hs : List Fact) (d : Config) → IsPending es pending k → Follows g start pending c tr full (written pending ++ m ∷ []) (pending_place pending ++ (h ∷ hs) ∷ []) d None next z acts → Heads g W c b m []
        → ((x : Tree) → h ∷ hs ≡ k_fact x ∷ [] → ⊥) → marks (acts ∷ []) ≡ marks_of [] (h ∷ hs) → z.known ≡ s.known → AllWithin next → GoesOn g W start next None lines (pending_lines k ++ line_for 0 b m ∷ []) c es d z (full ++ acts ∷ [])
    by_event k m h hs d is f heads other same known within =
        let o = after_pending g c d m pending ((h ∷ hs) ∷ []) f.process in
        let label : o.label ≡ h ∷ hs = this_label h hs o.label o.showing in
        let l : LineOf g W c es 0 b m [] o.label d = subst (λ k. LineOf g W c es 0 b k [] o.label d) o.is.chooses (line_of one decide g W c es 0 b [] o.is.step (subst (λ k. Heads g W c b k []) (sym o.is.chooses) heads) (λ y e. absurd (other y (sym label ∙ e)))) in
        let p = pending_written agents pending k lines c es tr s full is w in
        record {
          entries = l.entries;
          trace = (tr ++ pending_place pending) ++ (h ∷ hs) ∷ [];
          grows = l.grows;
          is = subst (λ ls. IsAlong g W start next None ls d l.entries ((tr ++ pending_place pending) ++ (h ∷ hs) ∷ []) z (full ++ acts ∷ [])) (append_assoc lines (pending_lines k) (line_for 0 b m ∷ []))
              (writes 0 (lines ++ pending_lines k) c es (tr ++ pending_place pending) s full p next None z acts (line_for 0 b m) [] (h ∷ hs) d l.entries (subst (λ i. IsProcessLine g W c es (line_for 0 b m) [] i d l.entries) label l.is)
              (subst (λ t. Together g start next None d t z (full ++ acts ∷ [])) (sym (append_assoc tr (pending_place pending) ((h ∷ hs) ∷ []))) f.together) (f.waits w.waits) same (omega arith) (l.sent w.sent) (λ y e. absurd (cc))
              (λ y i. l.keeps y (w.known y (subst (λ ts. Contains ts y) known i))) within);
        }

    -- it shows what is pending, and this is pending
    pub by_know : (k : Option ℕ) (x : Tree) → IsPending es pending k → Follows g start pending c tr full (written pending) (pending_place pending) c (Some x) next z acts → marks (acts ∷ []) ≡ [] → Contains es x → z.known ≡ s.known → AllWithin next
        → GoesOn g W start next (Some x) lines (pending_lines k) c es c z (full ++ acts ∷ [])
    by_know k x is f none entry known within =
        let p = pending_written agents pending k lines c es tr s full is w in
        record {
          entries = es;
          trace = tr ++ pending_place pending;
          grows = nothing_sent;
          is = stays 0 (lines ++ pending_lines k) c es (tr ++ pending_place pending) s full p next (Some x) z acts f.together (f.waits w.waits) none (omega arith) (λ y e. subst (λ t. Contains es t) (some_same x y e) entry) (λ y i. w.known y (subst (λ ts. Contains ts y) known i)) within;
        }

    -- what follows, where these are the lines that are written, and this is what they do
    pub followed : (tables behind : ProcessTables) (later : Option Tree) (step : RStep) (more : List PStep) (d : Config) → GoesOn g W start next later lines more c es d z (full ++ acts ∷ []) → Carries g agents pending c es s tables step acts more next later behind d z
        → IsContinued g W start agents pending lines c es s full tables step z acts
    followed tables behind later step more d h written = record {
      more = more;
      next = next;
      later = later;
      behind = behind;
      written = written.0;
      config = d;
      entries = h.entries;
      trace = h.trace;
      is = h.is;
      effect = written.1 h.entries h.grows;
    }
