-- What is read is spelled so: facts, actions and processes.
use Rattle.std.proofs.Common.{◌≡◌, ◌≤◌, max, ℕ, zero, suc, ◌+◌, Bool, true, false, List, [], ◌∷◌, drop, length, Option, Some, None, refl, sym, ap, subst, ◌∙◌, arith}
use Rattle.std.specs.Prelude.{nat_le, codes, ◌||◌}
use Rattle.sap_terms.specs.declared.fact.Fact.{Fact}
use Rattle.sap_terms.specs.declared.var.Sort.TheVariants.{Msg}
use Rattle.sap_terms.specs.Tree.{Tree}
use Rattle.sap_terms.specs.Signature.{Sig}
use Rattle.sap_grammar.specs.declared.limits.Limits.{Limits}
use Rattle.sap_grammar.specs.Words.{Word, mark, name, number, quoted, starts}
use Rattle.sap_grammar.specs.TermGrammar.{IsShort}
use Rattle.sap_grammar.specs.FactGrammar.{IsShortFact, AreFacts}
use Rattle.sap_grammar.specs.Reading.{Read, Reader, name_at, starts_zero, past}
use Rattle.sap_grammar.specs.TermReading.{short_term, short_fact, facts}
use Rattle.sap_process.specs.Action.{Action, out, send, input, receive, delete, lock, unlock, embedded}
use Rattle.sap_macro.specs.Located.{Located, nil_at, call_at, parallel_at}
use Rattle.sap_draft.specs.ProcessGrammar.{var, IsAction, IsBar, Ending, action_acts, action_delete, action_event, action_input, action_insert, action_lock, action_new, action_new_fresh, action_out, action_receive, action_rule, action_send, action_unlock, closed, dangling, one_bar, two_bars}
use Rattle.sap_draft.specs.code.ProcessReading.{channel, bound, right_side, embedded_rule, shown_event, inserted, on_term, state_action, action_of, Levelled, branches, Choosing, by_test, by_lookup, compared, condition, looked_up, looking, going_on, arguments, used, call_or_action, enclosed, repeated, seq_at, par_at, seq, par}
use Rattle.sap_draft.proofs.Arguments.{AreArguments, arguments_sound}
use Rattle.sap_draft.proofs.LocatedProcesses.{SeqAt, ParAt, at_nil, at_call, at_use, at_parentheses, at_replicated, at_action, at_then, at_if, at_if_else, at_lookup, at_lookup_else, at_one, at_more}
use Rattle.sap_draft.proofs.Processes.{NoElse, seq_some}
use Rattle.sap_grammar.proofs.ReadingLaws.Limits.{le_of}
use Rattle.sap_grammar.proofs.ReadingLaws.OnRead.{Says, OnRead, on_all, after_on, given_on, if_on, starts_is, name_is, same_bytes}
use Rattle.sap_grammar.specs.TermLaws.{AreRead}

-- what goes on behind a mark
past_on : {B : Type 0} (Q : Says B) (m : List ℕ) (ts : List Word) (k : Reader B) → (ts ≡ mark m ∷ drop 1 ts → OnRead Q (k (drop 1 ts))) → OnRead Q (past m ts k)
unfolding past
past_on Q m ts k f = if_on Q (starts m ts) (k (drop 1 ts)) None (λ e. f (starts_is m ts e)) (λ e. tt)

zero_is : (ts : List Word) → starts_zero ts ≡ true → ts ≡ number (codes "0") ∷ drop 1 ts
zero_is [] e = absurd (cc)
zero_is (mark s ∷ ts) e = absurd (cc)
zero_is (name s ∷ ts) e = absurd (cc)
zero_is (number s ∷ ts) e = let same : s ≡ codes "0" = same_bytes s (codes "0") e in cc
zero_is (quoted s ∷ ts) e = absurd (cc)

module _ (laws : AreRead) where
  module _ (g : Sig) (m : Limits) where
    abbrev Short : List Word → Says Tree
    Short ts t b = IsShort g m t ts b

    abbrev ShortFact : Bool → List Word → Says Fact
    ShortFact s ts f b = IsShortFact g m s f ts b

    abbrev Acts : List Word → Says Action
    Acts ts k b = IsAction g m k ts b

    short_sound : (ts : List Word) → OnRead (Short ts) (short_term g m ts)
    short_sound ts = on_all (Short ts) (short_term g m ts) (λ t b e. laws.term_is g m t ts b e)

    short_fact_sound : (s : Bool) (ts : List Word) → OnRead (ShortFact s ts) (short_fact g m s ts)
    short_fact_sound s ts = on_all (ShortFact s ts) (short_fact g m s ts) (λ f b e. laws.fact_is g m s f ts b e)

    facts_sound : (s : Bool) (w : List ℕ) (ts : List Word) → OnRead (λ fs b. AreFacts g m s w fs ts b) (facts g m s w ts)
    facts_sound s w ts = on_all (λ fs b. AreFacts g m s w fs ts b) (facts g m s w ts) (λ fs b e. laws.facts_are g m s w fs ts b e)

    -- the rest of a spelling, rewritten
    short_on : {t : Tree} {a b c : List Word} → IsShort g m t a b → b ≡ c → IsShort g m t a c
    short_on {t = t} {a = a} r e = subst (λ (y : List Word). IsShort g m t a y) e r

    facts_on : {s : Bool} {w : List ℕ} {fs : List Fact} {a b c : List Word} → AreFacts g m s w fs a b → b ≡ c → AreFacts g m s w fs a c
    facts_on {s = s} {w = w} {fs = fs} {a = a} r e = subst (λ (y : List Word). AreFacts g m s w fs a y) e r

    -- the words of an action, rewritten
    action_from : {k : Action} {a b c : List Word} → IsAction g m k a b → c ≡ a → IsAction g m k c b
    action_from {k = k} {b = b} r e = subst (λ (y : List Word). IsAction g m k y b) (sym e) r

    channel_sound : (w : List ℕ) (one : Tree → Action) (two : Tree → Tree → Action)
        → ((t : Tree) (a b : List Word) → IsShort g m t a (mark (codes ")") ∷ b) → IsAction g m (one t) (mark w ∷ mark (codes "(") ∷ a) b)
        → ((t u : Tree) (a b c : List Word) → IsShort g m t a (mark (codes ",") ∷ b) → IsShort g m u b (mark (codes ")") ∷ c) → IsAction g m (two t u) (mark w ∷ mark (codes "(") ∷ a) c)
        → (ts : List Word) → OnRead (Acts (mark w ∷ ts)) (channel g m one two ts)
    channel_sound w one two made1 made2 ts =
        let Q : Says Action = Acts (mark w ∷ ts) in
        past_on Q (codes "(") ts _ (λ e.
        let r : List Word = drop 1 ts in
        let all : mark w ∷ ts ≡ mark w ∷ mark (codes "(") ∷ r = ap (λ q. mark w ∷ q) e in
        after_on (Short r) Q (short_term g m r) _ (short_sound r) (λ t z h.
        if_on Q (starts (codes ")") z) _ _
        (λ f. action_from (made1 t r (drop 1 z) (short_on h (starts_is (codes ")") z f))) all)
        (λ f. past_on Q (codes ",") z _ (λ i.
        after_on (Short (drop 1 z)) Q (short_term g m (drop 1 z)) _ (short_sound (drop 1 z)) (λ u x k.
        past_on Q (codes ")") x _ (λ j. action_from (made2 t u r (drop 1 z) (drop 1 x) (short_on h i) (short_on k j)) all))))))

    right_sound : (a : List Word) (l e : List Fact) (ts : List Word)
        → ((r : List Fact) (b : List Word) → ts ≡ mark (codes "[") ∷ drop 1 ts → AreFacts g m true (codes "]") r (drop 1 ts) b → IsAction g m (embedded l e r) a b)
        → OnRead (Acts a) (right_side g m l e ts)
    right_sound a l e ts made =
        past_on (Acts a) (codes "[") ts _ (λ w.
        after_on (λ fs b. AreFacts g m true (codes "]") fs (drop 1 ts) b) (Acts a) (facts g m true (codes "]") (drop 1 ts)) _ (facts_sound true (codes "]") (drop 1 ts)) (λ fs b h. made fs b w h))

    rule_sound : (ts : List Word) → OnRead (Acts (mark (codes "[") ∷ ts)) (embedded_rule g m ts)
    rule_sound ts =
        let Q : Says Action = Acts (mark (codes "[") ∷ ts) in
        after_on (λ fs b. AreFacts g m true (codes "]") fs ts b) Q (facts g m true (codes "]") ts) _ (facts_sound true (codes "]") ts) (λ l r h.
        if_on Q (starts (codes "-->") r) _ _
        (λ e. right_sound (mark (codes "[") ∷ ts) l [] (drop 1 r) (λ fs b w k. action_rule (facts_on h (starts_is (codes "-->") r e ∙ ap (λ q. mark (codes "-->") ∷ q) w)) k))
        (λ e. past_on Q (codes "--[") r _ (λ x.
        after_on (λ fs b. AreFacts g m false (codes "]->") fs (drop 1 r) b) Q (facts g m false (codes "]->") (drop 1 r)) _ (facts_sound false (codes "]->") (drop 1 r)) (λ es y k.
        right_sound (mark (codes "[") ∷ ts) l es y (λ fs b w i. action_acts (facts_on h x) (facts_on k w) i)))))

    bound_sound : (ts : List Word) → OnRead (Acts (mark (codes "new") ∷ ts)) (bound ts)
    bound_sound ts =
        let Q : Says Action = Acts (mark (codes "new") ∷ ts) in
        if_on Q (starts (codes "~") ts) _ _
        (λ e. given_on Q (name_at (drop 1 ts)) _ (λ x f.
        action_from action_new_fresh (ap (λ q. mark (codes "new") ∷ q) (starts_is (codes "~") ts e ∙ ap (λ q. mark (codes "~") ∷ q) (name_is (drop 1 ts) x f)))))
        (λ e. given_on Q (name_at ts) _ (λ x f. action_from action_new (ap (λ q. mark (codes "new") ∷ q) (name_is ts x f))))

    -- a mark and one term behind it
    one_term_sound : (w : List ℕ) (made : Tree → Action) → ((t : Tree) (a b : List Word) → IsShort g m t a b → IsAction g m (made t) (mark w ∷ a) b) → (ts : List Word)
        → OnRead (Acts (mark w ∷ ts)) (on_term g m made ts)
    one_term_sound w made one ts = after_on (Short ts) (Acts (mark w ∷ ts)) (short_term g m ts) _ (short_sound ts) (λ t r h. one t ts r h)

    insert_sound : (ts : List Word) → OnRead (Acts (mark (codes "insert") ∷ ts)) (inserted g m ts)
    insert_sound ts =
        let Q : Says Action = Acts (mark (codes "insert") ∷ ts) in
        after_on (Short ts) Q (short_term g m ts) _ (short_sound ts) (λ t r h.
        past_on Q (codes ",") r _ (λ w.
        after_on (Short (drop 1 r)) Q (short_term g m (drop 1 r)) _ (short_sound (drop 1 r)) (λ u y k. action_insert (short_on h w) k)))

    event_sound : (ts : List Word) → OnRead (Acts (mark (codes "event") ∷ ts)) (shown_event g m ts)
    event_sound ts = after_on (ShortFact false ts) (Acts (mark (codes "event") ∷ ts)) (short_fact g m false ts) _ (short_fact_sound false ts) (λ f r h. action_event h)

    -- what is read behind a mark, where the mark stands
    at_mark : (w : List ℕ) (ts : List Word) (r : Read Action) → starts w ts ≡ true → OnRead (Acts (mark w ∷ drop 1 ts)) r → OnRead (Acts ts) r
    at_mark w ts r e h = subst (λ (y : List Word). OnRead (Acts y) r) (sym (starts_is w ts e)) h

    state_sound : (ts : List Word) → OnRead (Acts ts) (state_action g m ts)
    state_sound ts =
        let Q : Says Action = Acts ts in
        let r : List Word = drop 1 ts in
        if_on Q (starts (codes "insert") ts) _ _ (λ e. at_mark (codes "insert") ts _ e (insert_sound r)) (λ _.
        if_on Q (starts (codes "delete") ts) _ _ (λ e. at_mark (codes "delete") ts _ e (one_term_sound (codes "delete") delete (λ t a b h. action_delete h) r)) (λ _.
        if_on Q (starts (codes "lock") ts) _ _ (λ e. at_mark (codes "lock") ts _ e (one_term_sound (codes "lock") (λ t. lock t 0) (λ t a b h. action_lock h) r)) (λ _.
        if_on Q (starts (codes "unlock") ts) _ _ (λ e. at_mark (codes "unlock") ts _ e (one_term_sound (codes "unlock") (λ t. unlock t 0) (λ t a b h. action_unlock h) r)) (λ _.
        past_on Q (codes "[") ts _ (λ e. subst (λ (y : List Word). OnRead (Acts y) (embedded_rule g m r)) (sym e) (rule_sound r))))))

    action_sound : (ts : List Word) → OnRead (Acts ts) (action_of g m ts)
    action_sound ts =
        let Q : Says Action = Acts ts in
        let r : List Word = drop 1 ts in
        if_on Q (starts (codes "new") ts) _ _ (λ e. at_mark (codes "new") ts _ e (bound_sound r)) (λ _.
        if_on Q (starts (codes "out") ts) _ _ (λ e. at_mark (codes "out") ts _ e (channel_sound (codes "out") out send (λ t a b h. action_out h) (λ t u a b c h k. action_send h k) r)) (λ _.
        if_on Q (starts (codes "in") ts) _ _ (λ e. at_mark (codes "in") ts _ e (channel_sound (codes "in") input receive (λ t a b h. action_input h) (λ t u a b c h k. action_receive h k) r)) (λ _.
        if_on Q (starts (codes "event") ts) _ _ (λ e. at_mark (codes "event") ts _ e (event_sound r)) (λ _.
        state_sound ts))))

  -- a process as read, with its numbers: no `else` follows that would belong to it
  pub record Spelled (g : Sig) (m : Limits) (d : ℕ) (ts : List Word) (w : Levelled) (b : List Word) : Type 0 where
    pub ending : Ending
    pub spelled : SeqAt g m ending w.0 w.1 ts b
    pub within : w.1 ≤ d
    pub no_else : NoElse ending b

  abbrev SoundSeqs : Sig → Limits → ℕ → Reader Levelled → Type 0
  SoundSeqs g m d s = (ts : List Word) → OnRead (λ w b. Spelled g m d ts w b) (s ts)

  abbrev pub SoundPars : Sig → Limits → ℕ → Reader Levelled → Type 0
  SoundPars g m d s = (ts : List Word) → OnRead (λ w b. ParAt g m w.0 w.1 ts b × (w.1 ≤ d)) (s ts)

  seq_on : {g : Sig} {m : Limits} {n : ℕ} {e : Ending} {p : Located} {a b c : List Word} → SeqAt g m e p n a b → b ≡ c → SeqAt g m e p n a c
  seq_on {g = g} {m = m} {n = n} {e = e} {p = p} {a = a} r w = subst (λ (y : List Word). SeqAt g m e p n a y) w r

  -- where `else` follows, the branch is closed
  closed_branch : {g : Sig} {m : Limits} {n : ℕ} {p : Located} {a b : List Word} (e : Ending) → SeqAt g m e p n a b → NoElse e b → starts (codes "else") b ≡ true → SeqAt g m closed p n a b
  closed_branch closed r other there = r
  closed_branch dangling r other there = absurd (cc (there, other))

  module _ (g : Sig) (m : Limits) (d : ℕ) (s : Reader Levelled) (ss : SoundSeqs g m d s) where
    branches_sound : (a ts : List Word) (i : ℕ) (made : Choosing)
        → ((e : Ending) (p : Located) (n : ℕ) (b : List Word) → SeqAt g m e p n ts b → SeqAt g m dangling (made i p (nil_at i)) (max n 1 + 1) a b)
        → ((e : Ending) (p q : Located) (n k : ℕ) (b c : List Word) → SeqAt g m closed p n ts (mark (codes "else") ∷ b) → SeqAt g m e q k b c → SeqAt g m e (made i p q) (max n k + 1) a c)
        → OnRead (λ w b. Spelled g m (suc d) a w b) (branches s i made ts)
    branches_sound a ts i made one two =
        let Q : Says Levelled = λ w b. Spelled g m (suc d) a w b in
        after_on (λ w b. Spelled g m d ts w b) Q (s ts) _ (ss ts) (λ p r h.
        if_on Q (starts (codes "else") r) _ _
        (λ e. after_on (λ w b. Spelled g m d (drop 1 r) w b) Q (s (drop 1 r)) _ (ss (drop 1 r)) (λ q z k.
        record {
          ending = k.ending;
          spelled = two k.ending p.0 q.0 p.1 q.1 (drop 1 r) z (seq_on (closed_branch h.ending h.spelled h.no_else e) (starts_is (codes "else") r e)) k.spelled;
          within = omega (arith, h.within, k.within);
          no_else = k.no_else;
        }))
        (λ e. record { ending = dangling; spelled = one h.ending p.0 p.1 r h.spelled; within = some_within h.ending h.spelled h.within; no_else = e }))
      where
        some_within : {p : Located} {n : ℕ} {b : List Word} (e : Ending) → SeqAt g m e p n ts b → n ≤ d → max n 1 + 1 ≤ suc d
        some_within e r le = omega (arith, le, seq_some r.spelled)

    -- behind `if`
    if_sound : (ts : List Word) → OnRead (λ w b. Spelled g m (suc d) (mark (codes "if") ∷ ts) w b) (condition g m s (suc (length ts)) ts)
    if_sound ts =
        let Q : Says Levelled = λ w b. Spelled g m (suc d) (mark (codes "if") ∷ ts) w b in
        let P : Says Choosing = λ made r. OnRead Q (branches s (suc (length ts)) made r) in
        after_on P Q (compared g m ts) _
        (after_on (Short g m ts) P (short_term g m ts) _ (short_sound g m ts) (λ t r h.
        past_on P (codes "=") r _ (λ e.
        after_on (Short g m (drop 1 r)) P (short_term g m (drop 1 r)) _ (short_sound g m (drop 1 r)) (λ u y k.
        past_on P (codes "then") y _ (λ f.
        branches_sound (mark (codes "if") ∷ ts) (drop 1 y) (suc (length ts)) (by_test t u)
        (λ i p n b v. at_if (short_on g m h e) (short_on g m k f) v)
        (λ i p q n j b c v w. at_if_else (short_on g m h e) (short_on g m k f) v w))))))
        (λ made r on. on)

    -- behind `lookup`
    lookup_sound : (ts : List Word) → OnRead (λ w b. Spelled g m (suc d) (mark (codes "lookup") ∷ ts) w b) (looking g m s (suc (length ts)) ts)
    lookup_sound ts =
        let Q : Says Levelled = λ w b. Spelled g m (suc d) (mark (codes "lookup") ∷ ts) w b in
        let P : Says Choosing = λ made r. OnRead Q (branches s (suc (length ts)) made r) in
        after_on P Q (looked_up g m ts) _
        (after_on (Short g m ts) P (short_term g m ts) _ (short_sound g m ts) (λ t r h.
        past_on P (codes "as") r _ (λ e.
        given_on P (name_at (drop 1 r)) _ (λ x f.
        past_on P (codes "in") (drop 1 (drop 1 r)) _ (λ i.
        let all : r ≡ mark (codes "as") ∷ name x ∷ mark (codes "in") ∷ drop 1 (drop 1 (drop 1 r)) = e ∙ ap (λ q. mark (codes "as") ∷ q) (name_is (drop 1 r) x f ∙ ap (λ q. name x ∷ q) i) in
        branches_sound (mark (codes "lookup") ∷ ts) (drop 1 (drop 1 (drop 1 r))) (suc (length ts)) (by_lookup t (var Msg x))
        (λ j p n b v. at_lookup (short_on g m h all) v)
        (λ j p q n k b c v w. at_lookup_else (short_on g m h all) v w))))))
        (λ made r on. on)

    going_sound : (ts : List Word) (k : Action) (r : List Word) → IsAction g m k ts r → OnRead (λ w b. Spelled g m (suc d) ts w b) (going_on s d (length ts) k r)
    going_sound ts k r h =
        let Q : Says Levelled = λ w b. Spelled g m (suc d) ts w b in
        if_on Q (starts (codes ";") r) _ _
        (λ e. after_on (λ w b. Spelled g m d (drop 1 r) w b) Q (s (drop 1 r)) _ (ss (drop 1 r)) (λ p z i.
        record {
          ending = i.ending;
          spelled = at_then (subst (λ (y : List Word). IsAction g m k ts y) (starts_is (codes ";") r e) h) i.spelled;
          within = omega (arith, i.within);
          no_else = i.no_else;
        }))
        (λ e. if_on Q (nat_le 1 d) _ _
        (λ le. let some : 1 ≤ d = le_of 1 d le in record { ending = closed; spelled = at_action h; within = omega (arith, some); no_else = tt })
        (λ le. tt))

    -- behind the name of a process
    use_sound : (x : List ℕ) (ts : List Word) → OnRead (λ w b. Spelled g m (suc d) (name x ∷ ts) w b) (used g m (suc (length ts)) x ts)
    use_sound x ts =
        let Q : Says Levelled = λ w b. Spelled g m (suc d) (name x ∷ ts) w b in
        if_on Q (starts (codes "(") ts) _ _
        (λ e. after_on (λ us b. AreArguments g m us (drop 1 ts) b) Q (arguments g m (drop 1 ts)) _ (arguments_sound laws g m (drop 1 ts)) (λ us b h.
        record {
          ending = closed;
          spelled = subst (λ (y : List Word). SeqAt g m closed (call_at (suc (length y)) x us) 1 (name x ∷ y) b) (sym (starts_is (codes "(") ts e)) (at_use h.spelled h.small);
          within = omega arith;
          no_else = tt;
        }))
        (λ e. record { ending = closed; spelled = at_call; within = omega arith; no_else = tt })

    call_sound : (ts : List Word) → OnRead (λ w b. Spelled g m (suc d) ts w b) (call_or_action g m s d (name_at ts) ts)
    call_sound ts = by_word (name_at ts) refl
      where
        by_word : (o : Option (List ℕ)) → name_at ts ≡ o → OnRead (λ w b. Spelled g m (suc d) ts w b) (call_or_action g m s d o ts)
        by_word (Some x) e = subst (λ (y : List Word). OnRead (λ w b. Spelled g m (suc d) y w b) (used g m (length y) x (drop 1 ts))) (sym (name_is ts x e)) (use_sound x (drop 1 ts))
        by_word None e = after_on (Acts g m ts) (λ w b. Spelled g m (suc d) ts w b) (action_of g m ts) _ (action_sound g m ts) (λ k r h. going_sound ts k r h)

    -- what is read behind a mark, where the mark stands, which has its number
    seq_mark : (w : List ℕ) (ts : List Word) (r : ℕ → Read Levelled) → starts w ts ≡ true → OnRead (λ v b. Spelled g m (suc d) (mark w ∷ drop 1 ts) v b) (r (suc (length (drop 1 ts))))
        → OnRead (λ v b. Spelled g m (suc d) ts v b) (r (length ts))
    seq_mark w ts r e h = subst (λ (y : List Word). OnRead (λ v b. Spelled g m (suc d) y v b) (r (length y))) (sym (starts_is w ts e)) h

    module _ (v : Reader Levelled) (vs : SoundPars g m d v) where
      seq_at_sound : SoundSeqs g m (suc d) (seq_at g m s v d)
      seq_at_sound ts =
          let Q : Says Levelled = λ w b. Spelled g m (suc d) ts w b in
          let r : List Word = drop 1 ts in
          if_on Q (starts (codes "(") ts) _ _
          (λ e. seq_mark (codes "(") ts (λ k. enclosed v r) e (after_on (λ w b. ParAt g m w.0 w.1 r b × (w.1 ≤ d)) (λ w b. Spelled g m (suc d) (mark (codes "(") ∷ r) w b) (v r) _ (vs r) (λ p y h.
          past_on (λ w b. Spelled g m (suc d) (mark (codes "(") ∷ r) w b) (codes ")") y _ (λ f.
          record {
            ending = closed;
            spelled = at_parentheses (subst (λ (b : List Word). ParAt g m p.0 p.1 r b) f h.0);
            within = omega (arith, h.1);
            no_else = tt;
          }))))
          (λ _. if_on Q (starts (codes "!") ts) _ _
          (λ e. seq_mark (codes "!") ts (λ k. repeated s k r) e (after_on (λ w b. Spelled g m d r w b) (λ w b. Spelled g m (suc d) (mark (codes "!") ∷ r) w b) (s r) _ (ss r) (λ p y h.
          record { ending = h.ending; spelled = at_replicated h.spelled; within = omega (arith, h.within); no_else = h.no_else })))
          (λ _. if_on Q (starts (codes "if") ts) _ _
          (λ e. seq_mark (codes "if") ts (λ k. condition g m s k r) e (if_sound r))
          (λ _. if_on Q (starts (codes "lookup") ts) _ _
          (λ e. seq_mark (codes "lookup") ts (λ k. looking g m s k r) e (lookup_sound r))
          (λ _. if_on Q (starts_zero ts) _ _
          (λ e. record {
            ending = closed;
            spelled = subst (λ (y : List Word). SeqAt g m closed (nil_at (length y)) 1 y r) (sym (zero_is ts e)) at_nil;
            within = omega arith;
            no_else = tt;
          })
          (λ _. call_sound ts)))))

  par_at_sound : (g : Sig) (m : Limits) (d : ℕ) (here v : Reader Levelled) → SoundSeqs g m (suc d) here → SoundPars g m d v → SoundPars g m (suc d) (par_at here v d)
  par_at_sound g m d here v s vs ts =
      let Q : Says Levelled = λ w b. ParAt g m w.0 w.1 ts b × (w.1 ≤ suc d) in
      after_on (λ w b. Spelled g m (suc d) ts w b) Q (here ts) _ (s ts) (λ p r h.
      if_on Q (starts (codes "|") r || starts (codes "||") r) _ _
      (λ e. if_on Q (nat_le p.1 d) _ _
      (λ le. let short : p.1 ≤ d = le_of p.1 d le in
      after_on (λ w b. ParAt g m w.0 w.1 (drop 1 r) b × (w.1 ≤ d)) Q (v (drop 1 r)) _ (vs (drop 1 r)) (λ q z k.
      (joined p q r z h.ending h.spelled (starts (codes "|") r) refl e k.0, omega (arith, short, k.1))))
      (λ le. tt))
      (λ e. (at_one h.spelled, h.within)))
    where
      -- behind a sign, which has the number of what stands from it on
      signed : (p q : Levelled) (r z : List Word) (i : Ending) (w : List ℕ) → IsBar w → SeqAt g m i p.0 p.1 ts r → r ≡ mark w ∷ drop 1 r
          → ParAt g m q.0 q.1 (drop 1 r) z → ParAt g m (parallel_at (length r) p.0 q.0) (max p.1 q.1 + 1) ts z
      signed p q r z i w bar h is k = subst (λ (n : ℕ). ParAt g m (parallel_at n p.0 q.0) (max p.1 q.1 + 1) ts z) (sym (ap length is)) (at_more bar (seq_on h is) k)

      joined : (p q : Levelled) (r z : List Word) (i : Ending) → SeqAt g m i p.0 p.1 ts r → (c : Bool) → starts (codes "|") r ≡ c → (starts (codes "|") r || starts (codes "||") r) ≡ true
          → ParAt g m q.0 q.1 (drop 1 r) z → ParAt g m (parallel_at (length r) p.0 q.0) (max p.1 q.1 + 1) ts z
      joined p q r z i h true e either k = signed p q r z i (codes "|") one_bar h (starts_is (codes "|") r e) k
      joined p q r z i h false e either k =
          let second : starts (codes "||") r ≡ true = rw e at either in
          signed p q r z i (codes "||") two_bars h (starts_is (codes "||") r second) k

  mutual
    unfolding seq par

    seq_sound : (g : Sig) (m : Limits) (d : ℕ) → SoundSeqs g m d (seq g m d)
    seq_sound g m zero = λ ts. tt
    seq_sound g m (suc d) = seq_at_sound g m d (seq g m d) (seq_sound g m d) (par g m d) (par_sound g m d)

    pub par_sound : (g : Sig) (m : Limits) (d : ℕ) → SoundPars g m d (par g m d)
    par_sound g m zero = λ ts. tt
    par_sound g m (suc d) =
        par_at_sound g m d (seq_at g m (seq g m d) (par g m d) d) (par g m d)
        (seq_at_sound g m d (seq g m d) (seq_sound g m d) (par g m d) (par_sound g m d)) (par_sound g m d)
