-- The line where two threads meet.
use Rattle.std.proofs.Common.{◌≡◌, ℕ, zero, suc, ◌+◌, ◌<◌, ◌^◌, List, [], ◌∷◌, ◌++◌, Option, Some, None, refl, sym, ap, ◌∙◌, subst, arith, slice_get, slice_set, length, map}
use Rattle.std.specs.Prelude.{Contains}
use Rattle.std.proofs.lemmas.Option.{slice_get_within}
use Rattle.sap_terms.specs.AdversaryFacts.{fr_fact}
use Rattle.sap_terms.specs.Choice.{Choice, instance}
use Rattle.sap_terms.specs.Equal.{IsTheoryEqual}
use Rattle.sap_terms.specs.Equations.{equations}
use Rattle.sap_terms.specs.Piles.{Pile}
use Rattle.sap_terms.specs.Signature.{Sig, HoldsBuiltins}
use Rattle.sap_terms.specs.Trace.{Trace, shown}
use Rattle.sap_terms.specs.Tree.{Tree, Trees, variable, fresh, public}
use Rattle.sap_terms.specs.Tree as tree_type
use Rattle.sap_terms.specs.Variables.{new_vars, tree_vars}
use Rattle.sap_terms.specs.declared.fact.Fact.{Fact}
use Rattle.sap_terms.specs.declared.var.Var.{Var}
use Rattle.sap_process.specs.Action as action
use Rattle.sap_process.specs.Configuration.{Config, Runs, becomes}
use Rattle.sap_process.specs.Proc.{Proc, act, node_count}
use Rattle.sap_process.specs.ProcessSteps.{Fits, with_choice}
use Rattle.sap_process.specs.Ready.{IsReady}
use Rattle.sap_process.specs.Sites.{var_names}
use Rattle.sap_locks.specs.Annotation.{IsAnnotation}
use Rattle.sap_place.specs.StateFacts.{waits_fact, tag}
use Rattle.sap_rule.specs.RuleSteps.{RuleState}
use Rattle.sap_rule.specs.Variables.{open_variables}
use Rattle.sap_rule.specs.declared.rule.Rule.{Rule}
use Rattle.sap_runs.specs.Marks.{marks_of}
use Rattle.sap_runs.specs.declared.process_step.PStep.TheVariants as line
use Rattle.sap_runs.specs.declared.rule_step.RStep.TheVariants.{Fresh, Rule as RuleLine}
use Rattle.sap_lines.specs.Answers.{MatchesExactly}
use Rattle.sap_lines.specs.Lines.{EvaluateWithin}
use Rattle.sap_lines.specs.Runs.{CanGiveEach}
use Rattle.sap_steps.specs.Lines.{IsLine}
use Rattle.sap_templates.specs.ChannelFacts.{msg_fact, ack_fact}
use Rattle.sap_translate.specs.Members.{Member}
use Rattle.sap_translate.specs.Scoped.{Within, EachWithin}
use Rattle.sap_templates.specs.Templates as rules
use Rattle.sap_templates.specs.Templates.{rules_of, first_of}
use Rattle.sap_translate.specs.relation.Agents.{Agent, running}
use Rattle.sap_translate.specs.relation.Answers.{term_under, under, widened, goes_on, at_first}
use Rattle.sap_translate.specs.relation.Answered as case
use Rattle.sap_translate.specs.relation.Envs.{Env, names, values, filled, just, join, bind}
use Rattle.sap_translate.specs.relation.RuleMoves as move
use Rattle.sap_forward.specs.Answered.{IsAnswered}
use Rattle.sap_rule_lines.specs.Least.{not_drawn, numbers_below}
use Rattle.sap_forward.specs.Linked.{Linked, EnvWithin}
use Rattle.sap_forward.specs.Tables.{RuleTables, AreRuleTables}
use Rattle.sap_forward.specs.Written.{IsWrittenAsRules, moved, gives}
use Rattle.sap_forward.proofs.Evaluated.{Evaluates, rule_within, first_within, rest_within, form_within, var_within}
use Rattle.sap_forward.proofs.Given.{next_from, next_given, free_one}
use Rattle.sap_forward.proofs.Lines.{lines_of, used_line, made_line}
use Rattle.sap_forward.proofs.Moves.{met_by_move}
use Rattle.sap_forward.proofs.Fresh.{wide_just, just_within, in_front, fresh_within, next_new, made_next}
use Rattle.sap_forward.proofs.Inputs.{wide_pattern, fits_is}
use Rattle.sap_forward.proofs.Premises.{Laws}
use Rattle.sap_forward.proofs.Tabled.{Stay, spot_of, Spot, here, there, length_set, length_join, get_left, get_right, get_other, tables_move}
use Rattle.sap_forward.proofs.Advance.{IsLimit, envs_set, only_env, stay_set, place_sound, opens_at, state_within, law, stands_at, seated}

-- the fact of a sender that waits
waits_within : (laws : Laws) (g : Sig) (W : Tree → Type 0) (big : Env) (v : List Var) (x : Var) → Evaluates g W (filled big) (map variable v) → EvaluateWithin g W (filled big x ∷ []) → Evaluates g W (filled big) (map variable v ++ variable x ∷ [])
waits_within laws g W big [] x h k = (k, tt)
waits_within laws g W big (y ∷ v) x h k = (h.0, waits_within laws g W big v x h.1 k)

mutual
  within_more : (v u : List Var) → ((x : Var) → Member x v → Member x u) → (t : Tree) → Within v t → Within u t
  within_more v u h (variable x) w = h x w
  within_more v u h (public a) w = tt
  within_more v u h (fresh n) w = tt
  within_more v u h (tree_type.apply f ts) w = each_more v u h ts w

  each_more : (v u : List Var) → ((x : Var) → Member x v → Member x u) → (ts : Trees) → EachWithin v ts → EachWithin u ts
  each_more v u h tree_type.none w = tt
  each_more v u h (tree_type.more t ts) w = (within_more v u h t w.0, each_more v u h ts w.1)

-- a thread doesn't meet itself
threads_apart : (c : Config) (a b : ℕ) (m n : Tree) (u : Proc) (l r : Tree) (w : Proc) → a ≡ b → Runs c a (act (action.send m n) u) → Runs c b (act (action.receive l r) w) → ⊥
threads_apart c a b m n u l r w same e f = let h : Some (Some (act (action.send m n) u)) ≡ Some (Some (act (action.receive l r) w)) = sym e ∙ ap (slice_get c.threads) same ∙ f in absurd (cc)

-- an item of two lists joined
data Halves {A : Type 0} (xs ys : List A) (i : ℕ) (x : A) : Type 0 where
  front : slice_get xs i ≡ Some x → Halves xs ys i x
  behind : (m : ℕ) → slice_get ys m ≡ Some x → i ≡ length xs + m → Halves xs ys i x

halves : {A : Type 0} (xs ys : List A) (i : ℕ) (x : A) → slice_get (xs ++ ys) i ≡ Some x → Halves xs ys i x
halves [] ys i x e = behind i e (omega arith)
halves (z ∷ xs) ys zero x e = front e
halves (z ∷ xs) ys (suc i) x e = elim (halves xs ys i x e) [ front h ↦ front h | behind m at h ↦ behind m at (omega arith) ]

-- the facts below the newest ones stay, where both threads' facts are gone
met_stay : (facts : Pile) (N j k : ℕ) → N ≡ length facts → (h0 h1 h2 h3 nb na : Fact)
    → let f0 : Pile = facts ++ Some h0 ∷ [] in
    let f1 : Pile = slice_set (slice_set f0 j None) N None ++ Some h1 ∷ Some h2 ∷ [] in
    let f2 : Pile = slice_set (slice_set f1 k None) (N + 1) None ++ Some h3 ∷ Some nb ∷ [] in
    let f3 : Pile = slice_set (slice_set f2 (N + 2) None) (N + 3) None ++ Some na ∷ [] in
    Stay (slice_set facts k None ++ None ∷ None ∷ None ∷ None ∷ Some nb ∷ []) j f3
met_stay facts N j k long h0 h1 h2 h3 nb na i f apart e = elim (halves (slice_set facts k None) (None ∷ None ∷ None ∷ None ∷ Some nb ∷ []) i (Some f) e) [
  | front h ↦ low (spot_of facts k None i (Some f) h)
  | behind m at h ↦ high m at h
]
  where
    f0 : Pile
    f0 = facts ++ Some h0 ∷ []

    f1 : Pile
    f1 = slice_set (slice_set f0 j None) N None ++ Some h1 ∷ Some h2 ∷ []

    f2 : Pile
    f2 = slice_set (slice_set f1 k None) (N + 1) None ++ Some h3 ∷ Some nb ∷ []

    f3 : Pile
    f3 = slice_set (slice_set f2 (N + 2) None) (N + 3) None ++ Some na ∷ []

    low : Spot facts k None i (Some f) → slice_get f3 i ≡ Some (Some f)
    low (here same is) = absurd (cc)
    low (there other is) =
        let lt = slice_get_within facts i (Some f) is in
        let at1 : slice_get f1 i ≡ Some (Some f) = get_left (slice_set (slice_set f0 j None) N None) (Some h1 ∷ Some h2 ∷ []) i (Some f) (get_other (slice_set f0 j None) N i None (λ o. absurd (omega arith)) ∙ get_other f0 j i None apart ∙ get_left facts (Some h0 ∷ []) i (Some f) is) in
        let at2 : slice_get f2 i ≡ Some (Some f) = get_left (slice_set (slice_set f1 k None) (N + 1) None) (Some h3 ∷ Some nb ∷ []) i (Some f) (get_other (slice_set f1 k None) (N + 1) i None (λ o. absurd (omega arith)) ∙ get_other f1 k i None other ∙ at1) in
        get_left (slice_set (slice_set f2 (N + 2) None) (N + 3) None) (Some na ∷ []) i (Some f) (get_other (slice_set f2 (N + 2) None) (N + 3) i None (λ o. absurd (omega arith)) ∙ get_other f2 (N + 2) i None (λ o. absurd (omega arith)) ∙ at2)

    newest : i ≡ N + 4 → nb ≡ f → slice_get f3 i ≡ Some (Some f)
    newest is same =
        let l0 : length f0 ≡ N + 1 = length_join facts (Some h0 ∷ []) ∙ (omega arith) in
        let l1 : length f1 ≡ N + 3 = length_join (slice_set (slice_set f0 j None) N None) (Some h1 ∷ Some h2 ∷ []) ∙ (let e1 = length_set (slice_set f0 j None) N None in let e2 = length_set f0 j None in omega arith) in
        let g2 : length (slice_set (slice_set f1 k None) (N + 1) None) ≡ N + 3 = length_set (slice_set f1 k None) (N + 1) None ∙ length_set f1 k None ∙ l1 in
        let at2 : slice_get f2 i ≡ Some (Some f) = get_right (slice_set (slice_set f1 k None) (N + 1) None) (Some h3 ∷ Some nb ∷ []) 1 i (Some f) (ap (λ y. Some (Some y)) same) (omega arith) in
        get_left (slice_set (slice_set f2 (N + 2) None) (N + 3) None) (Some na ∷ []) i (Some f) (get_other (slice_set f2 (N + 2) None) (N + 3) i None (λ o. absurd (omega arith)) ∙ get_other f2 (N + 2) i None (λ o. absurd (omega arith)) ∙ at2)

    high : (m : ℕ) → slice_get (None ∷ None ∷ None ∷ None ∷ Some nb ∷ []) m ≡ Some (Some f) → i ≡ length (slice_set facts k None) + m → slice_get f3 i ≡ Some (Some f)
    high zero at h = absurd (cc)
    high (suc zero) at h = absurd (cc)
    high (suc (suc zero)) at h = absurd (cc)
    high (suc (suc (suc zero))) at h = absurd (cc)
    high (suc (suc (suc (suc zero)))) at h = newest (let e3 = length_set facts k None in omega arith) (cc)
    high (suc (suc (suc (suc (suc m))))) at h = absurd (cc)

module _ (laws : Laws) (g : Sig) (W : Tree → Type 0) (p q : Proc) (hold : HoldsBuiltins g) (ready : IsReady g p) (small : node_count p < 2 ^ 64) (annotated : IsAnnotation p q) (drawn : List ℕ) (agents : List (Option Agent)) (c : Config) (es : List Tree) (tr : Trace) (s : RuleState) (full : Trace) (tables : RuleTables) (lk : Linked g W q drawn tables agents c es tr s full) (limit : IsLimit g W) (can : CanGiveEach g c es) (exact : MatchesExactly g c es) where
  pub meets_here : (a b : ℕ) (path at : List ℕ) (env other : Env) (m n l r : Tree) (u w : Proc) (σ : Choice) → slice_get agents a ≡ Some (Some (running path env (act (action.send m n) u))) → slice_get agents b ≡ Some (Some (running at other (act (action.receive l r) w)))
      → Runs c a (act (action.send (term_under env m) (term_under env n)) (under env u)) → Runs c b (act (action.receive (term_under other l) (term_under other r)) (under other w))
      → IsTheoryEqual (equations g) (term_under env m) (term_under other l) → Fits g σ (term_under other r) (term_under env n) → EvaluateWithin g W (term_under env m ∷ term_under env n ∷ term_under other l ∷ [])
      → IsAnswered g W q drawn agents c tables s full (line.Sync a b) (becomes (becomes c a (Some (under env u))) b (Some (with_choice σ (tree_vars (term_under other r)) (under other w)))) es (tr ++ shown []) (marks_of [] [])
  meets_here a b path at env other m n l r u w σ ia ib runs_a runs_b alike fits heads =
      let body_a : Proc = act (action.send m n) u in
      let body_b : Proc = act (action.receive l r) w in
      let next = next_from drawn tables.next in
      let tg = next.0 in
      let sits_a = seated laws g W p q hold ready small annotated drawn agents c es tr s full tables lk a path env body_a ia in
      let sits_b = seated laws g W p q hold ready small annotated drawn agents c es tr s full tables lk b at other body_b ib in
      let j = sits_a.0 in
      let k = sits_b.0 in
      let at_a = stands_at laws g W p q hold ready small annotated drawn agents c es tr s full tables lk a path env body_a ia in
      let at_b = stands_at laws g W p q hold ready small annotated drawn agents c es tr s full tables lk b at other body_b ib in
      let sound_a = place_sound laws g W p q hold ready small annotated path env body_a at_a in
      let sound_b = place_sound laws g W p q hold ready small annotated at other body_b at_b in
      let opens_a = opens_at laws g W p q hold ready small annotated path env body_a at_a in
      let opens_b = opens_at laws g W p q hold ready small annotated at other body_b at_b in
      let wide_a = lk.envs a (running path env body_a) ia in
      let wide_b = lk.envs b (running at other body_b) ib in
      let name = fresh_within laws g W limit tg in
      -- what is sent, and its normal forms
      let M : Tree = term_under env m in
      let V : Tree = term_under env n in
      let fm = laws.each_form (equations g) M in
      let fv = laws.each_form (equations g) V in
      let x = fm.0 in
      let v = fv.0 in
      let ev_m = first_within g W M (V ∷ term_under other l ∷ []) heads in
      let tail = rest_within g W M (V ∷ term_under other l ∷ []) heads in
      let ev_v = first_within g W V (term_under other l ∷ []) tail in
      let ev_l = rest_within g W V (term_under other l ∷ []) tail in
      let small_v : W v = form_within g W V v [] ev_v fv.1 in
      -- the sender
      let tagged : Env = just tag (fresh tg) in
      let big_a : Env = join env tagged in
      let all_a = wide_just laws g W env tag (fresh tg) sound_a.2 wide_a name in
      let tag_a = just_within laws g W env tag (fresh tg) sound_a.2 name in
      let st_a = state_within laws g W p q hold ready small annotated big_a (names env) all_a (λ y i. in_front (names env) (tag ∷ []) i) in
      let st_wait = waits_within laws g W big_a (names env) tag st_a tag_a in
      let put_m = subst (λ i. EvaluateWithin g W (i ∷ [])) (sym (laws.longer env tagged m sound_a.0)) ev_m in
      let put_n = subst (λ i. EvaluateWithin g W (i ∷ [])) (sym (laws.longer env tagged n sound_a.1)) ev_v in
      -- the receiver
      let wider : Env = widened other σ (tree_vars r) in
      let term_is : instance (filled wider) r ≡ v = laws.patterns g other σ (tree_vars r) r at_b.1 sound_b.2
      ∙ fits_is laws g W p q hold ready small annotated drawn agents c es tr s full tables lk limit can exact b (act (action.receive (term_under other l) (term_under other r)) (under other w)) (term_under other r) v σ runs_b refl fits.messages (laws.kept.onwards (equations g) (instance σ (term_under other r)) V v fits.equal fv.1.equal) fv.1.normal in
      let ev_r = subst (λ i. EvaluateWithin g W (i ∷ [])) (sym term_is) (limit.parts v fv.1.normal small_v) in
      let all_b = wide_pattern laws g W other σ (tree_vars r) wide_b (λ y i. var_within g W (filled wider) r y i ev_r) in
      let big_b : Env = join wider tagged in
      let all_c = wide_just laws g W wider tag (fresh tg) sound_b.1 all_b name in
      let tag_b = just_within laws g W wider tag (fresh tg) sound_b.1 name in
      let ns = new_vars (var_names (names other)) (tree_vars r) in
      let st_b = state_within laws g W p q hold ready small annotated big_b (names other) all_c (λ y i. in_front (names other ++ ns) (tag ∷ []) (in_front (names other) ns i)) in
      let st_next = state_within laws g W p q hold ready small annotated big_b (names other ++ ns) all_c (λ y i. in_front (names other ++ ns) (tag ∷ []) i) in
      let put_l : instance (filled big_b) l ≡ term_under other l = laws.longer wider tagged l (within_more (names other) (names other ++ ns) (λ y i. in_front (names other) ns i) l sound_b.0) ∙ sym (laws.terms wider l (within_more (names other) (names other ++ ns) (λ y i. in_front (names other) ns i) l sound_b.0)) ∙ laws.longer other (bind σ ns) l sound_b.0 in
      let put_r : instance (filled big_b) r ≡ instance (filled wider) r = laws.longer wider tagged r sound_b.2 ∙ sym (laws.terms wider r sound_b.2) in
      let ev_l2 = subst (λ i. EvaluateWithin g W (i ∷ [])) (sym put_l) ev_l in
      let ev_r2 = subst (λ i. EvaluateWithin g W (i ∷ [])) (sym put_r) ev_r in
      -- the rules
      let r1 : Rule = rules.out_msg_rule path (names env) m n in
      let r2 : Rule = rules.in_msg_rule at (names other) l r in
      let r3 : Rule = rules.out_ack_rule path (names env) in
      let none1 : open_variables g r1 ≡ [] = cc in
      let none2 : open_variables g r2 ≡ [] = cc in
      let none3 : open_variables g r3 ≡ [] = cc in
      let clear : Contains s.made tg → ⊥ = λ i. next_new drawn tables.next c tg next.1 (lk.made tg i) in
      let ans = law laws g W p q hold ready small annotated drawn agents c es tr s full tables lk case.Meets laws.meets a b j k tg path at env other m n l r x v u w σ sits_a.2 sits_b.2 alike fits fm.1 fv.1 clear in
      let d0 : Config = becomes (becomes c a (Some (under env u))) b (Some (under wider w)) in
      let d_is = met_by_move g c a b σ M V (term_under other l) (term_under other r) (under env u) (under other w) [] d0 ans.process runs_a runs_b in
      let N = length s.facts in
      let count : N ≡ tables.count = sym lk.tabled.count in
      -- the facts
      let f0 : Pile = s.facts ++ Some (fr_fact tg) ∷ [] in
      let f1 : Pile = slice_set (slice_set f0 j None) N None ++ Some (msg_fact (fresh tg) x v) ∷ Some (waits_fact path (values env ++ fresh tg ∷ [])) ∷ [] in
      let nb : Fact = at_first at wider in
      let f2 : Pile = slice_set (slice_set f1 k None) (N + 1) None ++ Some (ack_fact (fresh tg)) ∷ Some nb ∷ [] in
      let na : Fact = at_first path env in
      let f3 : Pile = slice_set (slice_set f2 (N + 2) None) (N + 3) None ++ Some na ∷ [] in
      let l0 : length f0 ≡ N + 1 = length_join s.facts (Some (fr_fact tg) ∷ []) in
      let l1 : length f1 ≡ N + 3 = length_join (slice_set (slice_set f0 j None) N None) (Some (msg_fact (fresh tg) x v) ∷ Some (waits_fact path (values env ++ fresh tg ∷ [])) ∷ []) ∙ (let e = length_set (slice_set f0 j None) N None in let e2 = length_set f0 j None in omega arith) in
      let g2 : length (slice_set (slice_set f1 k None) (N + 1) None) ≡ N + 3 = length_set (slice_set f1 k None) (N + 1) None ∙ length_set f1 k None ∙ l1 in
      let l2 : length f2 ≡ N + 5 = length_join (slice_set (slice_set f1 k None) (N + 1) None) (Some (ack_fact (fresh tg)) ∷ Some nb ∷ []) ∙ (omega arith) in
      let g3 : length (slice_set (slice_set f2 (N + 2) None) (N + 3) None) ≡ N + 5 = length_set (slice_set f2 (N + 2) None) (N + 3) None ∙ length_set f2 (N + 2) None ∙ l2 in
      let l3 : length f3 ≡ N + 6 = length_join (slice_set (slice_set f2 (N + 2) None) (N + 3) None) (Some na ∷ []) ∙ (omega arith) in
      -- thread b moves first, where fact j is still there, and then thread a
      let f2' : Pile = slice_set s.facts k None ++ None ∷ None ∷ None ∷ None ∷ Some nb ∷ [] in
      let l2' : length f2' ≡ N + 5 = length_join (slice_set s.facts k None) (None ∷ None ∷ None ∷ None ∷ Some nb ∷ []) ∙ (let e = length_set s.facts k None in omega arith) in
      let mid : AreRuleTables (goes_on agents b at wider w) c.facts f2' (moved tables b 4) = tables_move agents c.facts s.facts tables lk.tabled b k 4 f2' (running (first_of at) wider w) nb sits_b.1.number (stay_set s.facts k (None ∷ None ∷ None ∷ None ∷ Some nb ∷ [])) refl (l2' ∙ (omega arith))
      (get_right (slice_set s.facts k None) (None ∷ None ∷ None ∷ None ∷ Some nb ∷ []) 4 (N + 4) (Some nb) refl (let e = length_set s.facts k None in omega arith)) in
      let apart : a ≡ b → ⊥ = λ e. threads_apart c a b M V (under env u) (term_under other l) (term_under other r) (under other w) e runs_a runs_b in
      let number_a : slice_get (moved tables b 4).threads a ≡ Some j = get_other tables.threads b a (tables.count + 4) (λ e. apart (sym e)) ∙ sits_a.1.number in
      let stay : Stay f2' j f3 = met_stay s.facts N j k refl (fr_fact tg) (msg_fact (fresh tg) x v) (waits_fact path (values env ++ fresh tg ∷ [])) (ack_fact (fresh tg)) nb na in
      let end : AreRuleTables (goes_on (goes_on agents b at wider w) a path env u) c.facts f3 (moved (moved tables b 4) a 0) = tables_move (goes_on agents b at wider w) c.facts f2' (moved tables b 4) mid a j 0 f3 (running (first_of path) env u) na number_a stay refl (l3 ∙ (omega arith))
      (get_right (slice_set (slice_set f2 (N + 2) None) (N + 3) None) (Some na ∷ []) 0 (length f2' + 0) (Some na) refl (omega arith)) in
      subst (λ d. IsAnswered g W q drawn agents c tables s full (line.Sync a b) d es (tr ++ shown []) (marks_of [] [])) d_is
      (record {
        lines = Fresh tg ∷ RuleLine r1.name (j ∷ tables.count ∷ []) [] ∷ RuleLine r2.name (k ∷ (tables.count + 1) ∷ []) [] ∷ RuleLine r3.name ((tables.count + 2) ∷ (tables.count + 3) ∷ []) [] ∷ [];
        later = goes_on (goes_on agents b at wider w) a path env u;
        behind = gives (moved (moved tables b 4) a 0) tg;
        state = _;
        more = [] ∷ [] ∷ [] ∷ [] ∷ [];
        written = IsWrittenAsRules.meets a b j k tg path at env other m n l r σ u w sits_a.1 sits_b.1 next.1;
        legal = lines_of W g (rules_of q) s _ (move.makes_name tg ∷ move.uses r1 (j ∷ N ∷ []) (filled big_a) ∷ move.uses r2 (k ∷ (N + 1) ∷ []) (filled big_b) ∷ move.uses r3 ((N + 2) ∷ (N + 3) ∷ []) (filled big_a) ∷ [])
            (Fresh tg ∷ RuleLine r1.name (j ∷ tables.count ∷ []) [] ∷ RuleLine r2.name (k ∷ (tables.count + 1) ∷ []) [] ∷ RuleLine r3.name ((tables.count + 2) ∷ (tables.count + 3) ∷ []) [] ∷ []) ([] ∷ [] ∷ [] ∷ [] ∷ []) (
              (λ a z h. made_line W g (rules_of q) (laws.named q) s z a tg h),
              (λ y. (
                (λ a z h. subst (λ i. IsLine g (rules_of q) W y (RuleLine r1.name (j ∷ i ∷ []) []) a z) count (used_line W g (rules_of q) (laws.named q) y z a r1 (j ∷ N ∷ []) (filled big_a) [] (record { vars = sym none1; agrees = tt })
                    (rule_within g W (filled big_a) r1 (st_a, ((tag_a, tt), tt)) tt ((tag_a, (put_m, (put_n, tt))), (st_wait, tt))) h)),
                (λ y. (
                  (λ a z h. subst (λ i. IsLine g (rules_of q) W y (RuleLine r2.name (k ∷ (i + 1) ∷ []) []) a z) count (used_line W g (rules_of q) (laws.named q) y z a r2 (k ∷ (N + 1) ∷ []) (filled big_b) [] (record { vars = sym none2; agrees = tt })
                      (rule_within g W (filled big_b) r2 (st_b, ((tag_b, (ev_l2, (ev_r2, tt))), tt)) tt ((tag_b, tt), (st_next, tt))) h)),
                  (λ y. (
                    (λ a z h. subst (λ i. IsLine g (rules_of q) W y (RuleLine r3.name ((i + 2) ∷ (i + 3) ∷ []) []) a z) count (used_line W g (rules_of q) (laws.named q) y z a r3 ((N + 2) ∷ (N + 3) ∷ []) (filled big_a) [] (record { vars = sym none3; agrees = tt })
                        (rule_within g W (filled big_a) r3 (st_wait, ((tag_a, tt), tt)) tt (st_a, tt)) h)),
                    (λ y. tt),
                  )),
                )),
              )),
            ) ans.rules;
        linked = record {
          rest = ans.rest;
          known = lk.known;
          tabled = record { threads = end.threads; facts = end.facts; apart = end.apart; count = end.count };
          made = made_next drawn tables.next c d0 tg s.made refl refl next.1 lk.made;
          entries = lk.entries;
          envs = envs_set (EnvWithin g W) (goes_on agents b at wider w) a (Some (running (first_of path) env u)) (envs_set (EnvWithin g W) agents b (Some (running (first_of at) wider w)) lk.envs (only_env (EnvWithin g W) (first_of at) wider w all_b)) (only_env (EnvWithin g W) (first_of path) env u wide_a);
          stored = lk.stored;
        };
        marked = refl;
        short = omega arith;
        names = next_given drawn tables.next tg next.1 ∙ ap (λ i. not_drawn drawn (numbers_below tables.next) ++ i) (sym (free_one drawn tg next.1.free));
      })
