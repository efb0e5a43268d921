-- A line of rules for each step of the adversary.
use Rattle.std.proofs.Common.{◌≡◌, ℕ, suc, ◌<◌, ◌^◌, List, [], ◌∷◌, ◌++◌, Option, Some, refl, sym, ap, ◌∙◌, subst, arith, slice_get, map, length}
use Rattle.std.specs.Prelude.{Contains, All}
use Rattle.sap_terms.specs.AdversaryFacts.{k_fact, in_fact, out_fact, fr_fact}
use Rattle.sap_terms.specs.Equations.{equations}
use Rattle.sap_terms.specs.Normal.{IsNormalForm}
use Rattle.sap_terms.specs.Piles.{Pile, Takes, adds}
use Rattle.sap_terms.specs.Signature.{Sig, HoldsBuiltins, IsPublic, arity_of}
use Rattle.sap_terms.specs.Trace.{Trace}
use Rattle.sap_terms.specs.Tree.{Tree, fresh, public, apply, trees_of}
use Rattle.sap_terms.specs.declared.fact.Fact.{Fact}
use Rattle.sap_process.specs.Configuration.{Config, IsUnused, owns}
use Rattle.sap_process.specs.Proc.{Proc, node_count}
use Rattle.sap_process.specs.ProcessSteps.{ProcessStep}
use Rattle.sap_process.specs.Ready.{IsReady}
use Rattle.sap_locks.specs.Annotation.{IsAnnotation}
use Rattle.sap_rule.specs.RuleSteps as state
use Rattle.sap_rule.specs.RuleSteps.{RuleState, gains, leaves}
use Rattle.sap_runs.specs.declared.process_step.PStep.{PStep}
use Rattle.sap_runs.specs.declared.process_step.PStep.TheVariants as line
use Rattle.sap_lines.specs.Lines.{IsProcessLine}
use Rattle.sap_translate.specs.relation.Agents.{Agent}
use Rattle.sap_translate.specs.relation.ProcessMoves as move
use Rattle.sap_translate.specs.relation.ProcessMoves.{process_move}
use Rattle.sap_back.specs.Along.{IsAlong, count_pending}
use Rattle.sap_back.specs.Followed.{IsWrittenAsProcess, pending_lines}
use Rattle.sap_process_lines.specs.Tables.{ProcessTables, come, enters, waiting, with_known}
use Rattle.sap_back.specs.Tables.{AreProcessTables}
use Rattle.sap_runs.specs.declared.rule_step.RStep.TheVariants as rline
use Rattle.sap_back.proofs.Advance.{by_none, by_know, writes, unwritten, one_move, followed}
use Rattle.sap_back.proofs.Cases.{law}
use Rattle.sap_back.proofs.Effects.{IsContinued, kept}
use Rattle.sap_back.proofs.Lines.{in_front, at_end, pushed_cases}
use Rattle.sap_back.proofs.Premises.{Laws}
use Rattle.sap_back.proofs.Seats.{head_of, numbered, there_too}
use Rattle.sap_back.proofs.Terms.{contains}

-- each of these terms has a number in the table
record Numbers (tables : ProcessTables) (es : List Tree) (ks : List ℕ) (ts : List Tree) : Type 0 where
  js : List ℕ
  are : map (slice_get tables.entries) ks ≡ map (λ j. Some j) js
  entries : map (slice_get es) js ≡ map (λ x. Some x) ts
  many : length js ≡ length ts

numbers_of : (tables : ProcessTables) (es known : List Tree) → ((k e : ℕ) → slice_get tables.entries k ≡ Some e → slice_get es e ≡ slice_get known k) → length tables.entries ≡ length known
    → (ks : List ℕ) (ts : List Tree) → map (slice_get known) ks ≡ map (λ x. Some x) ts → Numbers tables es ks ts
numbers_of tables es known same many [] [] h = record { js = []; are = refl; entries = refl; many = refl }
numbers_of tables es known same many [] (t ∷ ts) h = absurd (cc)
numbers_of tables es known same many (k ∷ ks) [] h = absurd (cc)
numbers_of tables es known same many (k ∷ ks) (t ∷ ts) h =
    let first : slice_get known k ≡ Some t = cc in
    let n = there_too known tables.entries k t (sym many) first in
    let more = numbers_of tables es known same many ks ts (let i : map (slice_get known) ks ≡ map (λ x. Some x) ts = cc in i) in
    record {
      js = n.0 ∷ more.js;
      are = λ i. n.1 i ∷ more.are i;
      entries = λ i. (same k n.0 n.1 ∙ first) i ∷ more.entries i;
      many = ap suc more.many;
    }

same_names : (m n : ℕ) → fresh n ≡ fresh m → m ≡ n
same_names m n e = cc

some_number : (k j : ℕ) (js : List ℕ) → ◌≡◌ {A = List ℕ} (k ∷ []) (j ∷ js) → j ≡ k
some_number k j js e = cc

taken_there : {facts rest : Pile} {k : ℕ} {f : Fact} → Takes facts (k ∷ []) (f ∷ []) rest → slice_get facts k ≡ Some (Some f)
taken_there {facts = facts} {k = k} h = let head = head_of h in ap (slice_get facts) (sym (some_number k head.number head.others head.numbers)) ∙ head.is

module _ (laws : Laws) (g : Sig) (W : Tree → Type 0) (p q : Proc) (hold : HoldsBuiltins g) (ready : IsReady g p) (small : node_count p < 2 ^ 64) (annotated : IsAnnotation p q) (agents : List (Option Agent)) (pending : Option Tree) (lines : List PStep) (c : Config) (es : List Tree) (tr : Trace) (s : RuleState) (full : Trace) (w : IsAlong g W q agents pending lines c es tr s full) (tables : ProcessTables) (table : AreProcessTables agents pending c es s tables) where
  pub fresh_line : (n : ℕ) → ¬ Contains s.made n → IsContinued g W q agents pending lines c es s full tables (rline.Fresh n) (state.makes s n) []
  fresh_line n unmade =
      followed g W q laws.one_form laws.decide agents pending lines c es tr s full w [] agents (state.makes s n) [] tables (come tables (n ∷ [])) pending (rline.Fresh n) [] c (by_none g W q laws.one_form laws.decide agents pending lines c es tr s full w [] agents (state.makes s n) [] (law laws g W p q hold ready small annotated agents pending lines c es tr s full w tables table _ laws.follows_fresh n unmade) refl w.known w.within)
      (IsWrittenAsProcess.makes n, λ fs i. (refl, kept refl refl i))

  pub learn_line : (k : ℕ) (t : Tree) (rest : Pile) → Takes s.facts (k ∷ []) (out_fact t ∷ []) rest → IsContinued g W q agents pending lines c es s full tables (rline.Learn k) (gains (leaves s rest) t) []
  learn_line k t rest takes =
      let head = head_of takes in
      let sent = w.together.related.knowledge.outs head.number (out_fact t) head.is t refl in
      let number = numbered laws g W q agents pending c tr s full w.together.related es tables table k (out_fact t) (taken_there takes) in
      followed g W q laws.one_form laws.decide agents pending lines c es tr s full w [] agents (gains (leaves s rest) t) [] tables (enters tables number.0) pending (rline.Learn k) [] c (by_none g W q laws.one_form laws.decide agents pending lines c es tr s full w [] agents (gains (leaves s rest) t) [] (law laws g W p q hold ready small annotated agents pending lines c es tr s full w tables table _ laws.follows_learn k t rest takes) refl
      (pushed_cases s.known t (λ x. Contains es x) w.known (w.sent t (contains sent))) w.within) (IsWrittenAsProcess.learns k number.0 number.1, λ fs i. (t, rest, takes, refl, kept refl refl i))

  pub own_line : (k n : ℕ) (rest : Pile) → Takes s.facts (k ∷ []) (fr_fact n ∷ []) rest → IsContinued g W q agents pending lines c es s full tables (rline.Own k) (gains (leaves s rest) (fresh n)) []
  own_line k n rest takes =
      let f = law laws g W p q hold ready small annotated agents pending lines c es tr s full w tables table _ laws.follows_own k n rest takes in
      let live = taken_there takes in
      let number = numbered laws g W q agents pending c tr s full w.together.related es tables table k (fr_fact n) live in
      let number_is : slice_get tables.facts k ≡ Some n = number.1 ∙ ap (λ m. Some m) (same_names number.0 n (table.made k number.0 (fresh n) live number.1)) in
      let o = one_move g c (owns c n) (move.adversary_makes n) [] f.process in
      record {
        more = line.Name n ∷ [];
        written = IsWrittenAsProcess.owns k n live number_is;
        next = agents;
        later = pending;
        behind = with_known (enters tables tables.known);
        config = owns c n;
        entries = es ++ fresh n ∷ [];
        effect = (rest, takes, refl, record { facts = refl; entries = refl });
        trace = tr ++ [];
        is = writes g W q (count_pending pending) lines c es tr s full (unwritten g W q agents pending lines c es tr s full w) agents pending (gains (leaves s rest) (fresh n)) [] (line.Name n) [] [] (owns c n) (es ++ fresh n ∷ []) (IsProcessLine.names n (unused o.is.step o.is.chooses))
            f.together (f.waits w.waits) refl (omega arith) (λ x m. in_front es (fresh n ∷ []) x (w.sent x m)) (λ x e. in_front es (fresh n ∷ []) x (w.given x e))
            (pushed_cases s.known (fresh n) (λ x. Contains (es ++ fresh n ∷ []) x) (λ x m. in_front es (fresh n ∷ []) x (w.known x m)) (at_end es (fresh n))) w.within;
      }
    where
      unused : {l : List Fact} {d : Config} (step : ProcessStep g c l d) → process_move step ≡ move.adversary_makes n → IsUnused c n
      unused (ProcessStep.adversary_makes m u) e = let same : m ≡ n = cc in subst (λ i. IsUnused c i) same u
      unused step e = absurd (cc)

  pub public_line : (a : List ℕ) → IsContinued g W q agents pending lines c es s full tables (rline.Public a) (gains s (public a)) []
  public_line a =
      let f = law laws g W p q hold ready small annotated agents pending lines c es tr s full w tables table _ laws.follows_public a in
      record {
        more = line.Public a ∷ [];
        written = IsWrittenAsProcess.writes a;
        next = agents;
        later = pending;
        behind = with_known (enters tables tables.known);
        config = c;
        entries = es ++ public a ∷ [];
        effect = (refl, record { facts = refl; entries = refl });
        trace = tr ++ [];
        is = writes g W q (count_pending pending) lines c es tr s full (unwritten g W q agents pending lines c es tr s full w) agents pending (gains s (public a)) [] (line.Public a) [] [] c (es ++ public a ∷ []) (IsProcessLine.writes a)
            f.together (f.waits w.waits) refl (omega arith) (λ x m. in_front es (public a ∷ []) x (w.sent x m)) (λ x e. in_front es (public a ∷ []) x (w.given x e))
            (pushed_cases s.known (public a) (λ x. Contains (es ++ public a ∷ []) x) (λ x m. in_front es (public a ∷ []) x (w.known x m)) (at_end es (public a))) w.within;
      }

  pub apply_line : (f numbers : List ℕ) (ts : List Tree) (t : Tree) → map (slice_get s.known) numbers ≡ map (λ x. Some x) ts → IsPublic g f → arity_of g f ≡ Some (length ts) → All (Contains s.known) ts → IsNormalForm (equations g) (apply f (trees_of ts)) t → W t → IsContinued g W q agents pending lines c es s full tables (rline.Apply f numbers) (gains s t) []
  apply_line f numbers ts t entries symbol arity all form fits =
      let h = law laws g W p q hold ready small annotated agents pending lines c es tr s full w tables table _ laws.follows_apply f ts t symbol arity all form in
      let ks = numbers_of tables es s.known table.entries table.all_entries numbers ts entries in
      record {
        more = line.Apply f ks.js ∷ [];
        written = IsWrittenAsProcess.applies f numbers ks.js ks.are;
        next = agents;
        later = pending;
        behind = with_known (enters tables tables.known);
        config = c;
        entries = es ++ t ∷ [];
        effect = (t, refl, record { facts = refl; entries = refl });
        trace = tr ++ [];
        is = writes g W q (count_pending pending) lines c es tr s full (unwritten g W q agents pending lines c es tr s full w) agents pending (gains s t) [] (line.Apply f ks.js) [] [] c (es ++ t ∷ []) (IsProcessLine.applies f ks.js ts t symbol (arity ∙ ap (λ i. Some i) (sym ks.many)) ks.entries form fits)
            h.together (h.waits w.waits) refl (omega arith) (λ x m. in_front es (t ∷ []) x (w.sent x m)) (λ x e. in_front es (t ∷ []) x (w.given x e))
            (pushed_cases s.known t (λ x. Contains (es ++ t ∷ []) x) (λ x m. in_front es (t ∷ []) x (w.known x m)) (at_end es t)) w.within;
      }

  pub know_line : (k : ℕ) (t : Tree) → slice_get s.known k ≡ Some t → Contains s.known t → IsContinued g W q agents pending lines c es s full tables (rline.Know k) (leaves s (adds s.facts (in_fact t ∷ []))) (k_fact t ∷ [])
  know_line k t entry m =
      let number = there_too s.known tables.entries k t (sym table.all_entries) entry in
      followed g W q laws.one_form laws.decide agents pending lines c es tr s full w [] agents (leaves s (adds s.facts (in_fact t ∷ []))) (k_fact t ∷ []) tables (waiting (come tables (0 ∷ [])) (Some number.0)) (Some t) (rline.Know k) (pending_lines tables.pending) c (by_know g W q laws.one_form laws.decide agents pending lines c es tr s full w [] agents (leaves s (adds s.facts (in_fact t ∷ []))) (k_fact t ∷ []) tables.pending t table.waits (law laws g W p q hold ready small annotated agents pending lines c es tr s full w tables table _ laws.follows_give t m) refl (w.known t m) refl w.within)
      (IsWrittenAsProcess.knows k number.0 t entry number.1, λ fs i. (refl, kept refl refl i))
