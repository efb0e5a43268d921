-- Each step of a process is answered: its thread is found, and the law of its case used.
use Rattle.sap_translate.proofs.Premises.LowerLaws.{Laws, has_normal_form, nf}
use Rattle.sap_translate.specs.Members.{Member}
use Rattle.sap_translate.proofs.Lists.Bags.{take_same}
use Rattle.sap_translate.proofs.Shared.Lookups.{Behind, behind, member_left, member_right, member_cases, in_left, in_right, only_member}
use Rattle.sap_translate.proofs.Shared.Takings.{takes_total}
use Rattle.sap_translate.proofs.Shared.Totals.{total-set}
use Rattle.sap_translate.proofs.Parts.Control.{fact_of}
use Rattle.sap_translate.proofs.Parts.Kept.{state_no_out}
use Rattle.sap_translate.proofs.Related.Common.{bound_term, bound_pattern, bound_facts}
use Rattle.sap_translate.proofs.Parts.Users.{equal_users, put_users}
use Rattle.sap_translate.proofs.Terms.Derive.{contains, member}
use Rattle.sap_translate.specs.Scoped.{AreUnreserved}
use Rattle.sap_translate.specs.Sound.{SoundPlaces}
use Rattle.sap_translate.specs.relation.Answered.{Every}
use Rattle.sap_translate.specs.relation.Answers.{AtRest, Answers, StandsBefore, Copies, Learnt, IsAnswered, term_under, under, widened}
use Rattle.sap_translate.specs.relation.Envs.{Env, chosen, names, values, just, join}
use Rattle.sap_translate.specs.relation.ProcessMoves.{ProcessMove}
use Rattle.sap_translate.specs.relation.Agents.{Agent, unborn, running, copying, awaiting, received, process_of, is_semi, is_unborn}
use Rattle.sap_translate.specs.relation.Counts.{count_user, SamePile}
use Rattle.sap_translate.specs.relation.RuleMoves.{RuleMove, RuleMoves, stays, further}
use Rattle.sap_place.specs.StateFacts.{state_fact, copies_fact}
use Rattle.sap_process.specs.Configuration.{Config, Runs, becomes, spawns, makes, owns, sends_out, stores, holding, leaves, IsUnused, CanGive}
use Rattle.sap_process.specs.Instance.{process_instance, without}
use Rattle.sap_process.specs.Sites.{fresh_var, message_var}
use Rattle.sap_process.specs.Places.{place}
use Rattle.sap_process.specs.Proc.{Proc, act}
use Rattle.sap_process.specs.ProcessSteps.{ProcessStep, Fits, with_choice, with_term}
use Rattle.sap_rule.specs.RuleSteps.{RuleState}
use Rattle.sap_rule.specs.declared.rule.Rule.{Rule}
use Rattle.sap_terms.specs.Choice.{instance, Choice}
use Rattle.sap_terms.specs.Equal.{IsTheoryEqual}
use Rattle.sap_terms.specs.Equations.{equations, app2, pair_name}
use Rattle.sap_terms.specs.Modulo.{instance_fact, instance_facts, IsFormOfFact, AreEqualFacts, AreFormsOfFacts}
use Rattle.sap_terms.specs.Normal.{IsNormalForm}
use Rattle.sap_terms.specs.Piles.{Pile, Takes, nothing, one, adds}
use Rattle.sap_terms.specs.Signature.{Sig, HoldsBuiltins}
use Rattle.sap_terms.specs.Trace.{Trace, shown}
use Rattle.sap_terms.specs.Tree.{Tree, fresh}
use Rattle.sap_terms.specs.Variables.{tree_vars, facts_vars}
use Rattle.sap_terms.specs.declared.fact.Fact.{Fact}
use Rattle.sap_terms.specs.declared.var.Sort.TheVariants.{Msg, Fresh}
use Rattle.sap_terms.specs.declared.var.Var.{Var}
use Rattle.sap_terms.specs.AdversaryFacts.{k_fact}
use Rattle.sap_terms.specs.Message.{IsMessageChoice}
use Rattle.std.proofs.Common.{◌≡◌, ℕ, false, true, List, [], ◌∷◌, ◌++◌, Option, Some, None, refl, sym, ap, ◌∙◌, arith, slice_get, slice_set, subst, append_assoc}
use Rattle.std.specs.Prelude.{Contains}
use Rattle.sap_process.specs.Action as action
use Rattle.sap_process.specs.Proc as whole
use Rattle.sap_translate.proofs.Related.Control.{ends, splits, copies_first, copies_more, outputs, agrees, differs, shows}
use Rattle.sap_translate.proofs.Related.Stores.{inserts, deletes, finds, misses, locks, unlocks}
use Rattle.sap_translate.proofs.Related.Names.{makes_name, adversary_makes, knows}
use Rattle.sap_translate.proofs.Related.Messages.{outputs_on, inputs, inputs_on}
use Rattle.sap_translate.proofs.Related.Meets.{meets}
use Rattle.sap_translate.proofs.Related.Embedded.{embeds}
use Rattle.sap_translate.proofs.Related.Learnt.{deduces}

-- moves after moves
joined : {g : Sig} {rules : List Rule} {s y z : RuleState} {first second : List RuleMove} {more last : Trace} → RuleMoves g rules s first more y → RuleMoves g rules y second last z → RuleMoves g rules s (first ++ second) (more ++ last) z
joined stays k = k
joined (further h t) k = further h (joined t k)

first_of : (m : ℕ) (ms : List ℕ) → Member m (m ∷ ms)
first_of m ms = Member.here

-- names that were made already, or are among these
old_names : (s : List ℕ) (names : List ℕ) (n : ℕ) → Contains s n → Contains (s ++ names) n
old_names s names n c = contains (member_left names (member n s c))

one_name : (s : List ℕ) (names : List ℕ) (m : ℕ) → Member m names → (n : ℕ) → Contains (s ++ m ∷ []) n → Contains (s ++ names) n
one_name s names m h n c = elim (member_cases s (m ∷ []) (member n (s ++ m ∷ []) c)) [
  | in_left i ↦ contains (member_left names i)
  | in_right i ↦ contains (member_right s (subst (λ k. Member k names) (sym (only_member i)) h))
]

module _ (g : Sig) (start : Proc) (c : Config) (tr : Trace) (s : RuleState) (full : Trace) where
  -- an answer that draws no name, and one that draws one
  answered : {move : ProcessMove} {label : List Fact} {d : Config} {moves : List RuleMove} {more : Trace} {z : RuleState} {agents : List (Option Agent)} (names : List ℕ) → Answers g start c tr s full move label d moves more z agents → ((n : ℕ) → Contains z.made n → Contains (s.made ++ names) n) → IsAnswered g start c tr s full label d names
  answered names a m = record { moves = _; more = _; state = _; agents = _; rules = a.rules; rest = a.rest; made = m }

module _ (laws : Laws) (g : Sig) (start : Proc) (hold : HoldsBuiltins g) (fine : SoundPlaces g start) (agents : List (Option Agent)) (c : Config) (tr : Trace) (s : RuleState) (full : Trace) (h : AtRest g start agents c tr s full) where
  -- where a thread stands
  data Seat (t : ℕ) (p : Proc) : Type 0 where
    stands : (k : ℕ) (path : List ℕ) (env : Env) (b : Proc) → StandsBefore agents s t k path env b → under env b ≡ p → Seat t p
    copying_there : (k : ℕ) (path : List ℕ) (env : Env) (b : Proc) → Copies agents s t k path env b → whole.replicated (under env b) ≡ p → Seat t p

  seat : (t : ℕ) (p : Proc) → Runs c t p → Seat t p
  seat t p e = by_behind (behind process_of agents t p (ap (λ ts. slice_get ts t) (sym h.related.threads) ∙ e))
    where
      by_agent : (a : Agent) → slice_get agents t ≡ Some (Some a) → process_of a ≡ p → Seat t p
      by_agent (unborn body) is same = absurd (let k = total-set is_unborn agents t (Some (unborn body)) None is in let z = h.started in let o : is_unborn (Some (unborn body)) ≡ 1 = refl in omega arith)
      by_agent (running path env b) is same =
          let l = fact_of agents s t (running path env b) (state_fact path (values env)) h.related.facts is refl refl in
          stands l.number path env b (record { thread = is; fact = l.is }) same
      by_agent (copying path env b) is same =
          let l = fact_of agents s t (copying path env b) (copies_fact path (values env)) h.related.facts is refl refl in
          copying_there l.number path env b (record { thread = is; fact = l.is }) same
      by_agent (awaiting path env m n x y b i) is same = absurd (let k = total-set is_semi agents t (Some (awaiting path env m n x y b i)) None is in let z = h.calm in let o : is_semi (Some (awaiting path env m n x y b i)) ≡ 1 = refl in omega arith)
      by_agent (received path env m n b i) is same = absurd (let k = total-set is_semi agents t (Some (received path env m n b i)) None is in let z = h.calm in let o : is_semi (Some (received path env m n b i)) ≡ 1 = refl in omega arith)

      by_behind : Behind process_of agents t p → Seat t p
      by_behind b = by_agent b.item b.is b.gives

  -- a step with this label to d is answered, and the names drawn are among these
  abbrev Done : List Fact → Config → List ℕ → Type 0
  Done label d names = IsAnswered g start c tr s full label d names

  by_ends : (t : ℕ) (ns : List ℕ) → Seat t whole.nil → Done [] (becomes c t None) ns
  by_ends t ns (copying_there k path env b w e) = absurd (cc)
  by_ends t ns (stands k path env whole.nil w e) = answered g start c tr s full ns ((ends laws g start fine agents c tr s full h) t k path env w) (λ n i. old_names s.made ns n i)
  by_ends t ns (stands k path env b w e) = absurd (cc)

  by_splits : (t : ℕ) (ns : List ℕ) (p q : Proc) → Seat t (whole.parallel p q) → Done [] (spawns (becomes c t (Some p)) q) ns
  by_splits t ns p q (copying_there k path env b w e) = absurd (cc)
  by_splits t ns p q (stands k path env (whole.parallel u v) w e) =
      let one' : under env u ≡ p = cc in
      let two : under env v ≡ q = cc in
      subst (λ z. Done [] z ns) (λ i. spawns (becomes c t (Some (one' i))) (two i)) (answered g start c tr s full ns ((splits laws g start fine agents c tr s full h) t k path env u v w) (λ n i. old_names s.made ns n i))
  by_splits t ns p q (stands k path env b w e) = absurd (cc)

  by_copies : (t : ℕ) (ns : List ℕ) (p : Proc) → Seat t (whole.replicated p) → Done [] (spawns c p) ns
  by_copies t ns p (copying_there k path env b w e) =
      let one' : under env b ≡ p = cc in
      subst (λ z. Done [] z ns) (λ i. spawns c (one' i)) (answered g start c tr s full ns ((copies_more laws g start fine agents c tr s full h) t k path env b w) (λ n i. old_names s.made ns n i))
  by_copies t ns p (stands k path env (whole.replicated u) w e) =
      let one' : under env u ≡ p = cc in
      subst (λ z. Done [] z ns) (λ i. spawns c (one' i)) (answered g start c tr s full ns ((copies_first laws g start fine agents c tr s full h) t k path env u w) (λ n i. old_names s.made ns n i))
  by_copies t ns p (stands k path env b w e) = absurd (cc)

  by_outputs : (t : ℕ) (ns : List ℕ) (m n : Tree) (p : Proc) → IsNormalForm (equations g) m n → Seat t (act (action.out m) p) → Done [] (sends_out (becomes c t (Some p)) n) ns
  by_outputs t ns m n p f (copying_there k path env b w e) = absurd (cc)
  by_outputs t ns m n p f (stands k path env (act (action.out u) q) w e) =
      let one' : term_under env u ≡ m = cc in
      let two : under env q ≡ p = cc in
      subst (λ z. Done [] z ns) (λ i. sends_out (becomes c t (Some (two i))) n) (answered g start c tr s full ns ((outputs laws g start fine agents c tr s full h) t k path env u n q w (subst (λ z. IsNormalForm (equations g) z n) (sym one') f)) (λ n i. old_names s.made ns n i))
  by_outputs t ns m n p f (stands k path env b w e) = absurd (cc)

  by_agrees : (t : ℕ) (ns : List ℕ) (m n : Tree) (p q : Proc) → IsTheoryEqual (equations g) m n → Seat t (whole.test m n p q) → Done [] (becomes c t (Some p)) ns
  by_agrees t ns m n p q f (copying_there k path env b w e) = absurd (cc)
  by_agrees t ns m n p q f (stands k path env (whole.test u v a b) w e) =
      let one' : term_under env u ≡ m = cc in
      let two : term_under env v ≡ n = cc in
      let three : under env a ≡ p = cc in
      subst (λ z. Done [] z ns) (λ i. becomes c t (Some (three i))) (answered g start c tr s full ns ((agrees laws g start fine agents c tr s full h) t k path env u v ((nf laws) (equations g) (term_under env u)) ((nf laws) (equations g) (term_under env v)) a b w (subst (λ z. z) (λ i. IsTheoryEqual (equations g) (sym one' i) (sym two i)) f) ((has_normal_form laws) (equations g) (term_under env u)) ((has_normal_form laws) (equations g) (term_under env v))) (λ n i. old_names s.made ns n i))
  by_agrees t ns m n p q f (stands k path env b w e) = absurd (cc)

  by_differs : (t : ℕ) (ns : List ℕ) (m n : Tree) (p q : Proc) → (IsTheoryEqual (equations g) m n → ⊥) → Seat t (whole.test m n p q) → Done [] (becomes c t (Some q)) ns
  by_differs t ns m n p q f (copying_there k path env b w e) = absurd (cc)
  by_differs t ns m n p q f (stands k path env (whole.test u v a b) w e) =
      let one' : term_under env u ≡ m = cc in
      let two : term_under env v ≡ n = cc in
      let three : under env b ≡ q = cc in
      subst (λ z. Done [] z ns) (λ i. becomes c t (Some (three i))) (answered g start c tr s full ns ((differs laws g start fine agents c tr s full h) t k path env u v ((nf laws) (equations g) (term_under env u)) ((nf laws) (equations g) (term_under env v)) a b w (λ i. f (subst (λ z. z) (λ j. IsTheoryEqual (equations g) (one' j) (two j)) i)) ((has_normal_form laws) (equations g) (term_under env u)) ((has_normal_form laws) (equations g) (term_under env v))) (λ n i. old_names s.made ns n i))
  by_differs t ns m n p q f (stands k path env b w e) = absurd (cc)

  by_shows : (t : ℕ) (ns : List ℕ) (f u : Fact) (p : Proc) → IsFormOfFact (equations g) f u → Seat t (act (action.event f) p) → Done (u ∷ []) (becomes c t (Some p)) ns
  by_shows t ns f u p form (copying_there k path env b w e) = absurd (cc)
  by_shows t ns f u p form (stands k path env (act (action.event v) q) w e) =
      let one' : instance_fact (chosen env) v ≡ f = cc in
      let two : under env q ≡ p = cc in
      subst (λ z. Done (u ∷ []) z ns) (λ i. becomes c t (Some (two i))) (answered g start c tr s full ns ((shows laws g start fine agents c tr s full h) t k path env v u q w (subst (λ z. IsFormOfFact (equations g) z u) (sym one') form)) (λ n i. old_names s.made ns n i))
  by_shows t ns f u p form (stands k path env b w e) = absurd (cc)

  by_inserts : (t : ℕ) (ns : List ℕ) (m n x v : Tree) (p : Proc) → IsNormalForm (equations g) m x → IsNormalForm (equations g) n v → Seat t (act (action.insert m n) p) → Done [] (stores (becomes c t (Some p)) x (Some v)) ns
  by_inserts t ns m n x v p f i (copying_there k path env b w e) = absurd (cc)
  by_inserts t ns m n x v p f i (stands k path env (act (action.insert u y) q) w e) =
      let one' : term_under env u ≡ m = cc in
      let two : term_under env y ≡ n = cc in
      let three : under env q ≡ p = cc in
      subst (λ z. Done [] z ns) (λ j. stores (becomes c t (Some (three j))) x (Some v)) (answered g start c tr s full ns ((inserts laws g start hold fine agents c tr s full h) t k path env u y x v q w (subst (λ z. IsNormalForm (equations g) z x) (sym one') f) (subst (λ z. IsNormalForm (equations g) z v) (sym two) i)) (λ n j. old_names s.made ns n j))
  by_inserts t ns m n x v p f i (stands k path env b w e) = absurd (cc)

  by_deletes : (t : ℕ) (ns : List ℕ) (m x : Tree) (p : Proc) → IsNormalForm (equations g) m x → Seat t (act (action.delete m) p) → Done [] (stores (becomes c t (Some p)) x None) ns
  by_deletes t ns m x p f (copying_there k path env b w e) = absurd (cc)
  by_deletes t ns m x p f (stands k path env (act (action.delete u) q) w e) =
      let one' : term_under env u ≡ m = cc in
      let three : under env q ≡ p = cc in
      subst (λ z. Done [] z ns) (λ j. stores (becomes c t (Some (three j))) x None) (answered g start c tr s full ns ((deletes laws g start hold fine agents c tr s full h) t k path env u x q w (subst (λ z. IsNormalForm (equations g) z x) (sym one') f)) (λ n j. old_names s.made ns n j))
  by_deletes t ns m x p f (stands k path env b w e) = absurd (cc)

  by_misses : (t : ℕ) (ns : List ℕ) (m x : Tree) (y : Var) (p q : Proc) → IsNormalForm (equations g) m x → c.store x ≡ None → Seat t (whole.lookup m y p q) → Done [] (becomes c t (Some q)) ns
  by_misses t ns m x y p q f o (copying_there k path env b w e) = absurd (cc)
  by_misses t ns m x y p q f o (stands k path env (whole.lookup u z a b) w e) =
      let one' : term_under env u ≡ m = cc in
      let three : under env b ≡ q = cc in
      subst (λ z. Done [] z ns) (λ j. becomes c t (Some (three j))) (answered g start c tr s full ns ((misses laws g start hold fine agents c tr s full h) t k path env u x z a b w (subst (λ z. IsNormalForm (equations g) z x) (sym one') f) o) (λ n j. old_names s.made ns n j))
  by_misses t ns m x y p q f o (stands k path env b w e) = absurd (cc)

  by_finds : (t : ℕ) (ns : List ℕ) (m x v : Tree) (y : Var) (p q : Proc) → IsNormalForm (equations g) m x → c.store x ≡ Some v → Seat t (whole.lookup m y p q) → Done [] (becomes c t (Some (with_term y v p))) ns
  by_finds t ns m x v y p q f o (copying_there k path env b w e) = absurd (cc)
  by_finds t ns m x v y p q f o (stands k path env (whole.lookup u z a b) w e) =
      let at = h.related.placed t (running path env (whole.lookup u z a b)) w.thread in
      let one' : term_under env u ≡ m = cc in
      let two : z ≡ y = cc in
      let three : process_instance (without (chosen env) z) a ≡ p = cc in
      let thread : under (join env (just (message_var z) v)) a ≡ with_term y v p = sym ((bound_term laws) env z Msg v a at.1.ground (fine path (place path (names env) (whole.lookup u z a b)) at.0).1) ∙ (λ i. with_term (two i) v (three i)) in
      subst (λ i. Done [] (becomes c t (Some i)) ns) thread (answered g start c tr s full ns ((finds laws g start hold fine agents c tr s full h) t k path env u x v z a b w (subst (λ z. IsNormalForm (equations g) z x) (sym one') f) o) (λ n j. old_names s.made ns n j))
  by_finds t ns m x v y p q f o (stands k path env b w e) = absurd (cc)

  by_locks : (t n : ℕ) (ns : List ℕ) (m x : Tree) (l : ℕ) (p : Proc) → IsNormalForm (equations g) m x → c.held x ≡ false → (Contains s.made n → ⊥) → Member n ns → Seat t (act (action.lock m l) p) → Done [] (holding (becomes c t (Some p)) x true) ns
  by_locks t n ns m x l p f o u i (copying_there k path env b w e) = absurd (cc)
  by_locks t n ns m x l p f o u i (stands k path env (act (action.lock v l') q) w e) =
      let one' : term_under env v ≡ m = cc in
      let three : under env q ≡ p = cc in
      subst (λ z. Done [] z ns) (λ j. holding (becomes c t (Some (three j))) x true) (answered g start c tr s full ns ((locks laws g start hold fine agents c tr s full h) t k n path env v x l' q w (subst (λ z. IsNormalForm (equations g) z x) (sym one') f) o u) (λ m j. one_name s.made ns n i m j))
  by_locks t n ns m x l p f o u i (stands k path env b w e) = absurd (cc)

  by_unlocks : (t : ℕ) (ns : List ℕ) (m x : Tree) (l : ℕ) (p : Proc) → IsNormalForm (equations g) m x → Seat t (act (action.unlock m l) p) → Done [] (holding (becomes c t (Some p)) x false) ns
  by_unlocks t ns m x l p f (copying_there k path env b w e) = absurd (cc)
  by_unlocks t ns m x l p f (stands k path env (act (action.unlock v l') q) w e) =
      let one' : term_under env v ≡ m = cc in
      let three : under env q ≡ p = cc in
      subst (λ z. Done [] z ns) (λ j. holding (becomes c t (Some (three j))) x false) (answered g start c tr s full ns ((unlocks laws g start hold fine agents c tr s full h) t k path env v x l' q w (subst (λ z. IsNormalForm (equations g) z x) (sym one') f)) (λ n j. old_names s.made ns n j))
  by_unlocks t ns m x l p f (stands k path env b w e) = absurd (cc)

  by_makes_name : (t n : ℕ) (ns : List ℕ) (x : Var) (p : Proc) → IsUnused c n → (Contains s.made n → ⊥) → Member n ns → Seat t (act (action.new x) p) → Done [] (makes (becomes c t (Some (with_term x (fresh n) p))) n) ns
  by_makes_name t n ns x p o u i (copying_there k path env b w e) = absurd (cc)
  by_makes_name t n ns x p o u i (stands k path env (act (action.new y) q) w e) =
      let at = h.related.placed t (running path env (act (action.new y) q)) w.thread in
      let two : y ≡ x = cc in
      let three : process_instance (without (chosen env) y) q ≡ p = cc in
      let thread : under (join env (just (fresh_var y) (fresh n))) q ≡ with_term x (fresh n) p = sym ((bound_term laws) env y Fresh (fresh n) q at.1.ground (fine path (place path (names env) (act (action.new y) q)) at.0)) ∙ (λ i. with_term (two i) (fresh n) (three i)) in
      subst (λ i. Done [] (makes (becomes c t (Some i)) n) ns) thread (answered g start c tr s full ns ((makes_name laws g start fine agents c tr s full h) t k n path env y q w o u) (λ m j. one_name s.made ns n i m j))
  by_makes_name t n ns x p o u i (stands k path env b w e) = absurd (cc)

  -- an answer behind moves by which something comes to be known
  behind_learnt : (x : Tree) (l : Learnt g start agents c tr s full x) {move : ProcessMove} {label : List Fact} {d : Config} {moves : List RuleMove} {more : Trace} {z : RuleState} {later : List (Option Agent)} (ns : List ℕ) → Answers g start c tr l.state (full ++ l.more) move label d moves more z later → z.made ≡ l.state.made → Done label d ns
  behind_learnt x l {label = label} {d = d} {moves = moves} {more = more} {z = z} {later = later} ns a same = record {
    moves = l.moves ++ moves;
    more = l.more ++ more;
    state = z;
    agents = later;
    rules = joined l.rules a.rules;
    rest = subst (λ f. AtRest g start later d (tr ++ shown label) z f) (append_assoc full l.more more) a.rest;
    made = λ n i. old_names s.made ns n (subst (λ v. Contains v n) (same ∙ l.made) i);
  }

  still_stands : (x : Tree) (l : Learnt g start agents c tr s full x) (t k : ℕ) (path : List ℕ) (env : Env) (b : Proc) → StandsBefore agents s t k path env b → StandsBefore agents l.state t k path env b
  still_stands x l t k path env b w = record { thread = w.thread; fact = l.stay k (state_fact path (values env)) w.fact (λ u e. state_no_out path (values env) (state_fact path (values env)) Member.here u e) }

  by_knows : (x : Tree) (ns : List ℕ) → CanGive g c x → Done (k_fact x ∷ []) c ns
  by_knows x ns give =
      let l = (deduces laws g start agents c tr s full h) x give in
      behind_learnt x l ns ((knows laws g start fine agents c tr l.state (full ++ l.more) l.rest) x give l.knows) refl

  by_adversary_makes : (n : ℕ) (ns : List ℕ) → IsUnused c n → (Contains s.made n → ⊥) → Member n ns → Done [] (owns c n) ns
  by_adversary_makes n ns o u i = answered g start c tr s full ns ((adversary_makes laws g start fine agents c tr s full h) n o u) (λ m j. one_name s.made ns n i m j)

  by_outputs_on : (t : ℕ) (ns : List ℕ) (m n x v : Tree) (p : Proc) → IsNormalForm (equations g) m x → CanGive g c x → IsNormalForm (equations g) n v → Seat t (act (action.send m n) p) → Done (k_fact x ∷ []) (sends_out (becomes c t (Some p)) v) ns
  by_outputs_on t ns m n x v p f give i (copying_there k path env b w e) = absurd (cc)
  by_outputs_on t ns m n x v p f give i (stands k path env (act (action.send u y) q) w e) =
      let one' : term_under env u ≡ m = cc in
      let two : term_under env y ≡ n = cc in
      let three : under env q ≡ p = cc in
      let l = (deduces laws g start agents c tr s full h) x give in
      let b : Proc = act (action.send u y) q in
      subst (λ z. Done (k_fact x ∷ []) z ns) (λ j. sends_out (becomes c t (Some (three j))) v) (behind_learnt x l ns ((outputs_on laws g start fine agents c tr l.state (full ++ l.more) l.rest) t k path env u y x v q (still_stands x l t k path env b w) (subst (λ z. IsNormalForm (equations g) z x) (sym one') f) give (subst (λ z. IsNormalForm (equations g) z v) (sym two) i) l.knows) refl)
  by_outputs_on t ns m n x v p f give i (stands k path env b w e) = absurd (cc)

  by_inputs : (t : ℕ) (ns : List ℕ) (m x : Tree) (p : Proc) (σ : Choice) → CanGive g c x → Fits g σ m x → Seat t (act (action.input m) p) → Done (k_fact x ∷ []) (becomes c t (Some (with_choice σ (tree_vars m) p))) ns
  by_inputs t ns m x p σ give fits (copying_there k path env b w e) = absurd (cc)
  by_inputs t ns m x p σ give fits (stands k path env (act (action.input u) q) w e) =
      let b : Proc = act (action.input u) q in
      let at = h.related.placed t (running path env b) w.thread in
      let one' : term_under env u ≡ m = cc in
      let two : under env q ≡ p = cc in
      let l = (deduces laws g start agents c tr s full h) x give in
      let thread : under (widened env σ (tree_vars u)) q ≡ with_choice σ (tree_vars m) p = sym ((bound_pattern laws) σ env at.1.ground u q) ∙ (λ i. with_choice σ (tree_vars (one' i)) (two i)) in
      subst (λ z. Done (k_fact x ∷ []) (becomes c t (Some z)) ns) thread (behind_learnt x l ns ((inputs laws g start fine agents c tr l.state (full ++ l.more) l.rest) t k path env u x q σ (still_stands x l t k path env b w) give (subst (λ z. Fits g σ z x) (sym one') fits) l.knows) refl)
  by_inputs t ns m x p σ give fits (stands k path env b w e) = absurd (cc)

  by_inputs_on : (t : ℕ) (ns : List ℕ) (m n x : Tree) (p : Proc) (σ : Choice) → CanGive g c x → IsMessageChoice g σ → IsTheoryEqual (equations g) (app2 pair_name m (instance σ n)) x → Seat t (act (action.receive m n) p) → Done (k_fact x ∷ []) (becomes c t (Some (with_choice σ (tree_vars n) p))) ns
  by_inputs_on t ns m n x p σ give good fits (copying_there k path env b w e) = absurd (cc)
  by_inputs_on t ns m n x p σ give good fits (stands k path env (act (action.receive u v) q) w e) =
      let b : Proc = act (action.receive u v) q in
      let at = h.related.placed t (running path env b) w.thread in
      let one' : term_under env u ≡ m = cc in
      let two : term_under env v ≡ n = cc in
      let three : under env q ≡ p = cc in
      let l = (deduces laws g start agents c tr s full h) x give in
      let thread : under (widened env σ (tree_vars v)) q ≡ with_choice σ (tree_vars n) p = sym ((bound_pattern laws) σ env at.1.ground v q) ∙ (λ i. with_choice σ (tree_vars (two i)) (three i)) in
      subst (λ z. Done (k_fact x ∷ []) (becomes c t (Some z)) ns) thread (behind_learnt x l ns ((inputs_on laws g start fine agents c tr l.state (full ++ l.more) l.rest) t k path env u v x q σ (still_stands x l t k path env b w) give good (subst (λ z. z) (λ j. IsTheoryEqual (equations g) (app2 pair_name (sym one' j) (instance σ (sym two j))) x) fits) l.knows) refl)
  by_inputs_on t ns m n x p σ give good fits (stands k path env b w e) = absurd (cc)

  by_meets : (a b n : ℕ) (ns : List ℕ) (m u l r : Tree) (p q : Proc) (σ : Choice) → IsTheoryEqual (equations g) m l → Fits g σ r u → (Contains s.made n → ⊥) → Member n ns → Seat a (act (action.send m u) p) → Seat b (act (action.receive l r) q) → Done [] (becomes (becomes c a (Some p)) b (Some (with_choice σ (tree_vars r) q))) ns
  by_meets a b n ns m u l r p q σ f i o j (copying_there k path env w v e) y = absurd (cc)
  by_meets a b n ns m u l r p q σ f i o j (stands k path env (act (action.send m' u') p') w e) (copying_there k' at other w' v' e') = absurd (cc)
  by_meets a b n ns m u l r p q σ f i o j (stands k path env (act (action.send m' u') p') w e) (stands k' at other (act (action.receive l' r') q') w' e') =
      let there = h.related.placed b (running at other (act (action.receive l' r') q')) w'.thread in
      let m_is : term_under env m' ≡ m = cc in
      let u_is : term_under env u' ≡ u = cc in
      let p_is : under env p' ≡ p = cc in
      let l_is : term_under other l' ≡ l = cc in
      let r_is : term_under other r' ≡ r = cc in
      let q_is : under other q' ≡ q = cc in
      let thread : under (widened other σ (tree_vars r')) q' ≡ with_choice σ (tree_vars r) q = sym ((bound_pattern laws) σ other there.1.ground r' q') ∙ (λ i. with_choice σ (tree_vars (r_is i)) (q_is i)) in
      subst (λ z. Done [] z ns) (λ i. becomes (becomes c a (Some (p_is i))) b (Some (thread i)))
      (answered g start c tr s full ns ((meets laws g start fine agents c tr s full h) a b k k' n path at env other m' u' l' r' ((nf laws) (equations g) (term_under env m')) ((nf laws) (equations g) (term_under env u')) p' q' σ w w'
      (subst (λ z. z) (λ i. IsTheoryEqual (equations g) (sym m_is i) (sym l_is i)) f) (subst (λ z. z) (λ i. Fits g σ (sym r_is i) (sym u_is i)) i) ((has_normal_form laws) (equations g) (term_under env m')) ((has_normal_form laws) (equations g) (term_under env u')) o) (λ z v. one_name s.made ns n j z v))
  by_meets a b n ns m u l r p q σ f i o j (stands k path env (act (action.send m' u') p') w e) (stands k' at other d' w' e') = absurd (cc)
  by_meets a b n ns m u l r p q σ f i o j (stands k path env d' w e) y = absurd (cc)

  by_embeds : (t : ℕ) (ns : List ℕ) (l a o : List Fact) (p : Proc) (ks : List ℕ) (σ : Choice) (left acts right : List Fact) (rest : Pile) → IsMessageChoice g σ → AreEqualFacts (equations g) (instance_facts σ l) left → Takes c.facts ks left rest → AreFormsOfFacts (equations g) (instance_facts σ a) acts → AreFormsOfFacts (equations g) (instance_facts σ o) right → Seat t (act (action.embedded l a o) p) → Done acts (leaves (becomes c t (Some (with_choice σ (facts_vars (l ++ (a ++ o))) p))) (adds rest right)) ns
  by_embeds t ns l a o p ks σ left acts right rest good equal takes a_forms o_forms (copying_there k path env b w e) = absurd (cc)
  by_embeds t ns l a o p ks σ left acts right rest good equal takes a_forms o_forms (stands k path env (act (action.embedded l' a' o') q) w e) =
      let b : Proc = act (action.embedded l' a' o') q in
      let at = h.related.placed t (running path env b) w.thread in
      let sound = fine path (place path (names env) b) at.0 in
      let l_is : instance_facts (chosen env) l' ≡ l = cc in
      let a_is : instance_facts (chosen env) a' ≡ a = cc in
      let o_is : instance_facts (chosen env) o' ≡ o = cc in
      let q_is : under env q ≡ p = cc in
      let equal' : AreEqualFacts (equations g) (instance_facts σ (instance_facts (chosen env) l')) left = subst (λ z. AreEqualFacts (equations g) (instance_facts σ z) left) (sym l_is) equal in
      let own : AreUnreserved left = equal_users (equations g) (instance_facts σ (instance_facts (chosen env) l')) left equal' (put_users σ (instance_facts (chosen env) l') (put_users (chosen env) l' sound.0)) in
      let first : Takes s.facts (k ∷ []) (state_fact path (values env) ∷ []) (slice_set s.facts k None) = one w.fact nothing in
      let piles : SamePile c.facts (slice_set s.facts k None) = λ test. let x = takes_total (count_user test) refl first in let y = h.related.pile test in omega arith in
      let taken = take_same (slice_set s.facts k None) piles own takes in
      let thread : under (widened env σ (facts_vars (l' ++ (a' ++ o')))) q ≡ with_choice σ (facts_vars (l ++ (a ++ o))) p = sym ((bound_facts laws) σ env at.1.ground l' a' o' q) ∙ (λ i. with_choice σ (facts_vars (l_is i ++ (a_is i ++ o_is i))) (q_is i)) in
      subst (λ z. Done acts (leaves (becomes c t (Some z)) (adds rest right)) ns) thread
      (answered g start c tr s full ns ((embeds laws g start fine agents c tr s full h) t k path env l' a' o' q ks taken.ks σ left acts right rest taken.left w good equal' takes
      (subst (λ z. AreFormsOfFacts (equations g) (instance_facts σ z) acts) (sym a_is) a_forms) (subst (λ z. AreFormsOfFacts (equations g) (instance_facts σ z) right) (sym o_is) o_forms) taken.takes) (λ n j. old_names s.made ns n j))
  by_embeds t ns l a o p ks σ left acts right rest good equal takes a_forms o_forms (stands k path env b w e) = absurd (cc)

  pub every : Every g start agents c tr s full
  every label d (ProcessStep.ends t e) n new clear = by_ends t (n ∷ []) (seat t whole.nil e)
  every label d (ProcessStep.splits {p = p} {q = q} t e) n new clear = by_splits t (n ∷ []) p q (seat t (whole.parallel p q) e)
  every label d (ProcessStep.copies {p = p} t e) n new clear = by_copies t (n ∷ []) p (seat t (whole.replicated p) e)
  every label d (ProcessStep.makes_name {x = x} {p = p} t m e u) n new clear = by_makes_name t m (m ∷ n ∷ []) x p u (new m (contains (first_of m []))) Member.here (seat t (act (action.new x) p) e)
  every label d (ProcessStep.outputs {m = m} {n = o} {p = p} t e f) n new clear = by_outputs t (n ∷ []) m o p f (seat t (act (action.out m) p) e)
  every label d (ProcessStep.outputs_on {m = m} {n = u} {k = x} {u = v} {p = p} t e f i j) n new clear = by_outputs_on t (n ∷ []) m u x v p f i j (seat t (act (action.send m u) p) e)
  every label d (ProcessStep.inputs {n = m} {x = x} {p = p} t σ e i f) n new clear = by_inputs t (n ∷ []) m x p σ i f (seat t (act (action.input m) p) e)
  every label d (ProcessStep.inputs_on {m = m} {n = u} {x = x} {p = p} t σ e i j f) n new clear = by_inputs_on t (n ∷ []) m u x p σ i j f (seat t (act (action.receive m u) p) e)
  every label d (ProcessStep.meets {m = m} {n = u} {l = l} {r = r} {p = p} {q = q} a b σ e i f j) n new clear = by_meets a b n (n ∷ []) m u l r p q σ f j clear Member.here (seat a (act (action.send m u) p) e) (seat b (act (action.receive l r) q) i)
  every label d (ProcessStep.agrees {m = m} {n = u} {p = p} {q = q} t e f) n new clear = by_agrees t (n ∷ []) m u p q f (seat t (whole.test m u p q) e)
  every label d (ProcessStep.differs {m = m} {n = u} {p = p} {q = q} t e f) n new clear = by_differs t (n ∷ []) m u p q f (seat t (whole.test m u p q) e)
  every label d (ProcessStep.shows {f = f} {h = u} {p = p} t e i) n new clear = by_shows t (n ∷ []) f u p i (seat t (act (action.event f) p) e)
  every label d (ProcessStep.inserts {m = m} {n = u} {k = x} {v = v} {p = p} t e f i) n new clear = by_inserts t (n ∷ []) m u x v p f i (seat t (act (action.insert m u) p) e)
  every label d (ProcessStep.deletes {m = m} {k = x} {p = p} t e f) n new clear = by_deletes t (n ∷ []) m x p f (seat t (act (action.delete m) p) e)
  every label d (ProcessStep.finds {m = m} {k = x} {v = v} {x = y} {p = p} {q = q} t e f i) n new clear = by_finds t (n ∷ []) m x v y p q f i (seat t (whole.lookup m y p q) e)
  every label d (ProcessStep.misses {m = m} {k = x} {x = y} {p = p} {q = q} t e f i) n new clear = by_misses t (n ∷ []) m x y p q f i (seat t (whole.lookup m y p q) e)
  every label d (ProcessStep.locks {m = m} {k = x} {i = l} {p = p} t e f i) n new clear = by_locks t n (n ∷ []) m x l p f i clear Member.here (seat t (act (action.lock m l) p) e)
  every label d (ProcessStep.unlocks {m = m} {k = x} {i = l} {p = p} t e f) n new clear = by_unlocks t (n ∷ []) m x l p f (seat t (act (action.unlock m l) p) e)
  every label d (ProcessStep.embeds {l = l} {e = a} {r = o} {rest = rest} {p = p} t ks σ left acts right e i f j u v) n new clear = by_embeds t (n ∷ []) l a o p ks σ left acts right rest i f j u v (seat t (act (action.embedded l a o) p) e)
  every label d (ProcessStep.adversary_makes m u) n new clear = by_adversary_makes m (m ∷ n ∷ []) u (new m (contains (first_of m []))) Member.here
  every label d (ProcessStep.knows x i) n new clear = by_knows x (n ∷ []) i
