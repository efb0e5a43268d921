-- What is spelled so is read: facts, actions and processes.
use Rattle.std.proofs.Common.{◌≡◌, ◌≤◌, max, ℕ, zero, suc, Bool, false, List, ◌∷◌, length, Some, refl, sym, ap, ◌∙◌, arith}
use Rattle.std.specs.Prelude.{codes, ⊤}
use Rattle.sap_terms.specs.declared.fact.Fact.{Fact}
use Rattle.sap_terms.specs.Tree.{Tree}
use Rattle.sap_terms.specs.Signature.{Sig}
use Rattle.sap_grammar.specs.declared.limits.Limits.{Limits}
use Rattle.sap_grammar.specs.Words.{Word, mark, starts}
use Rattle.sap_grammar.specs.FactGrammar.{IsShortFact, AreFacts}
use Rattle.sap_grammar.specs.Reading.{Read, Reader, after, given, past}
use Rattle.sap_grammar.specs.TermReading.{short_term, short_fact, facts}
use Rattle.sap_grammar.specs.TermGrammar.{IsShort}
use Rattle.sap_process.specs.Action.{Action}
use Rattle.sap_macro.specs.Written.{Written}
use Rattle.sap_macro.specs.Located.{without_numbers}
use Rattle.sap_draft.specs.LocatedProcesses.{seq_located, par_located}
use Rattle.sap_draft.proofs.LocatedProcesses.{par_plain}
use Rattle.sap_draft.specs.ProcessGrammar.{IsAction, IsSeq, IsPar, Ending, EndsProcess, action_acts, action_delete, action_event, action_input, action_insert, action_lock, action_new, action_new_fresh, action_out, action_receive, action_rule, action_send, action_unlock, closed, dangling, one_bar, two_bars, par_more, par_one, seq_action, seq_call, seq_if, seq_if_else, seq_lookup, seq_lookup_else, seq_nil, seq_parentheses, seq_replicated, seq_then, seq_use}
use Rattle.sap_grammar.specs.TermLaws.{AreRead}
use Rattle.sap_draft.proofs.Arguments.{arguments_read}
use Rattle.sap_grammar.proofs.ReadingLaws.Limits.{fits}
use Rattle.sap_draft.specs.code.ProcessReading.{Levelled, going_on, seq_at, seq, par}

pub seq_some : {g : Sig} {m : Limits} {n : ℕ} {e : Ending} {p : Written} {a b : List Word} → IsSeq g m e p n a b → 1 ≤ n
seq_some seq_nil = omega arith
seq_some seq_call = omega arith
seq_some (seq_use r small) = omega arith
seq_some (seq_parentheses r) = omega arith
seq_some (seq_replicated r) = omega arith
seq_some (seq_action r) = omega arith
seq_some (seq_then r s) = omega arith
seq_some (seq_if t u r) = omega arith
seq_some (seq_if_else t u r s) = omega arith
seq_some (seq_lookup t r) = omega arith
seq_some (seq_lookup_else t r s) = omega arith

par_some : {g : Sig} {m : Limits} {n : ℕ} {p : Written} {a b : List Word} → IsPar g m p n a b → 1 ≤ n
par_some (par_one r) = seq_some r
par_some (par_more bar r s) = omega arith

-- no `else`, where it would belong to what stands before
abbrev pub NoElse : Ending → List Word → Type 0
NoElse closed b = ⊤
NoElse dangling b = starts (codes "else") b ≡ false

-- what may follow a process that is no parallel
record Follows (e : Ending) (b : List Word) : Type 0 where
  no_parenthesis : starts (codes "(") b ≡ false
  no_semicolon : starts (codes ";") b ≡ false
  no_else : NoElse e b

-- what follows an `if` or `lookup` without `else` suits its branch
inside : (e : Ending) {b : List Word} → Follows dangling b → Follows e b
inside closed f = record { no_parenthesis = f.no_parenthesis; no_semicolon = f.no_semicolon; no_else = tt }
inside dangling f = f

ending : (e : Ending) {b : List Word} → EndsProcess b → Follows e b
ending closed f = record { no_parenthesis = f.no_parenthesis; no_semicolon = f.no_semicolon; no_else = tt }
ending dangling f = record { no_parenthesis = f.no_parenthesis; no_semicolon = f.no_semicolon; no_else = f.no_else }

at_else : (g : List Word) → Follows closed (mark (codes "else") ∷ g)
at_else g = record { no_parenthesis = refl; no_semicolon = refl; no_else = tt }

at_bar : (e : Ending) (g : List Word) → Follows e (mark (codes "|") ∷ g)
at_bar closed g = record { no_parenthesis = refl; no_semicolon = refl; no_else = tt }
at_bar dangling g = record { no_parenthesis = refl; no_semicolon = refl; no_else = refl }

at_bars : (e : Ending) (g : List Word) → Follows e (mark (codes "||") ∷ g)
at_bars closed g = record { no_parenthesis = refl; no_semicolon = refl; no_else = tt }
at_bars dangling g = record { no_parenthesis = refl; no_semicolon = refl; no_else = refl }

at_close : (g : List Word) → EndsProcess (mark (codes ")") ∷ g)
at_close g = record { no_parenthesis = refl; no_semicolon = refl; no_else = refl; no_bar = refl; no_bars = refl }

module _ (laws : AreRead) where
  short_read : {g : Sig} {m : Limits} {t : Tree} {a b : List Word} → IsShort g m t a b → starts (codes "(") b ≡ false → short_term g m a ≡ Some (t, b)
  short_read {g = g} {m = m} {t = t} {a = a} {b = b} r follows = laws.term_read g m t a b r follows

  one_fact_read : {g : Sig} {m : Limits} {s : Bool} {f : Fact} {a b : List Word} → IsShortFact g m s f a b → short_fact g m s a ≡ Some (f, b)
  one_fact_read {g = g} {m = m} {s = s} {f = f} {a = a} {b = b} r = laws.fact_read g m s f a b r

  -- a closing mark is neither a comma nor `!`
  square_read : {g : Sig} {m : Limits} {s : Bool} {fs : List Fact} {a b : List Word} → AreFacts g m s (codes "]") fs a b → facts g m s (codes "]") a ≡ Some (fs, b)
  square_read {g = g} {m = m} {s = s} {fs = fs} {a = a} {b = b} r = laws.facts_read g m s (codes "]") fs a b (λ e. absurd (cc (e))) (λ e. absurd (cc (e))) r

  acts_read : {g : Sig} {m : Limits} {s : Bool} {fs : List Fact} {a b : List Word} → AreFacts g m s (codes "]->") fs a b → facts g m s (codes "]->") a ≡ Some (fs, b)
  acts_read {g = g} {m = m} {s = s} {fs = fs} {a = a} {b = b} r = laws.facts_read g m s (codes "]->") fs a b (λ e. absurd (cc (e))) (λ e. absurd (cc (e))) r

  module _ (s p : Reader Levelled) (d : ℕ) where
    action_read : {g : Sig} {m : Limits} {k : Action} {a b : List Word} → IsAction g m k a b → starts (codes "(") b ≡ false → seq_at g m s p d a ≡ going_on s d (length a) k b
    unfolding after given past
    action_read action_new f = refl
    action_read action_new_fresh f = refl
    action_read (action_out r) f = rw (short_read r refl) refl
    action_read (action_send r t) f = rw (short_read r refl, short_read t refl) refl
    action_read (action_input r) f = rw (short_read r refl) refl
    action_read (action_receive r t) f = rw (short_read r refl, short_read t refl) refl
    action_read (action_event r) f = rw (one_fact_read r) refl
    action_read (action_insert r t) f = rw (short_read r refl, short_read t f) refl
    action_read (action_delete r) f = rw (short_read r f) refl
    action_read (action_lock r) f = rw (short_read r f) refl
    action_read (action_unlock r) f = rw (short_read r f) refl
    action_read (action_rule l r) f = rw (square_read l, square_read r) refl
    action_read (action_acts l e r) f = rw (square_read l, acts_read e, square_read r) refl

  mutual
    unfolding seq par after given past

    seq_read : {g : Sig} {m : Limits} {n : ℕ} {e : Ending} {p : Written} {a b : List Word} (r : IsSeq g m e p n a b) (d : ℕ) → n ≤ d → Follows e b → seq g m d a ≡ Some ((seq_located r, n), b)
    seq_read r zero le f = absurd (omega (arith, le, seq_some r))
    seq_read seq_nil (suc d) le f = refl
    seq_read seq_call (suc d) le f = rw f.no_parenthesis refl
    seq_read {g = g} {m = m} (seq_use r small) (suc d) le f = rw (arguments_read laws g m r small) refl
    seq_read (seq_parentheses r) (suc d) le f = rw (par_read r d (omega (arith, le)) (at_close _)) refl
    seq_read (seq_replicated r) (suc d) le f = rw (seq_read r d (omega (arith, le)) f) refl
    seq_read {g = g} {m = m} (seq_action r) (suc d) le f =
        rw (action_read (seq g m d) (par g m d) d r f.no_parenthesis, f.no_semicolon, fits 1 d (omega (arith, le))) refl
    seq_read {g = g} {m = m} (seq_then r s) (suc d) le f =
        rw (action_read (seq g m d) (par g m d) d r refl, seq_read s d (omega (arith, le)) f) refl
    seq_read (seq_if {e = e} t u r) (suc d) le f =
        rw (short_read t refl, short_read u refl, seq_read r d (omega (arith, le)) (inside e f), f.no_else) refl
    seq_read (seq_if_else {d = g} t u r s) (suc d) le f =
        rw (short_read t refl, short_read u refl, seq_read r d (omega (arith, le)) (at_else g), seq_read s d (omega (arith, le)) f) refl
    seq_read (seq_lookup {e = e} t r) (suc d) le f =
        rw (short_read t refl, seq_read r d (omega (arith, le)) (inside e f), f.no_else) refl
    seq_read (seq_lookup_else {c = g} t r s) (suc d) le f =
        rw (short_read t refl, seq_read r d (omega (arith, le)) (at_else g), seq_read s d (omega (arith, le)) f) refl

    pub par_read : {g : Sig} {m : Limits} {n : ℕ} {p : Written} {a b : List Word} (r : IsPar g m p n a b) (d : ℕ) → n ≤ d → EndsProcess b → par g m d a ≡ Some ((par_located r, n), b)
    par_read r zero le f = absurd (omega (arith, le, par_some r))
    par_read (par_one {e = e} r) (suc d) le f = rw (seq_read r (suc d) le (ending e f), f.no_bar, f.no_bars) refl
    par_read (par_more {e = e} {n = n} {b = b} one_bar r s) (suc d) le f =
        rw (seq_read r (suc d) (omega (arith, le)) (at_bar e b), fits n d (omega (arith, le)), par_read s d (omega (arith, le)) f) refl
    par_read (par_more {e = e} {n = n} {b = b} two_bars r s) (suc d) le f =
        rw (seq_read r (suc d) (omega (arith, le)) (at_bars e b), fits n d (omega (arith, le)), par_read s d (omega (arith, le)) f) refl

  -- from one place words spell at most one process that nothing of it follows, and each place of it is told by one word
  pub one_located : {g : Sig} {m : Limits} {n k : ℕ} {p q : Written} {a b c : List Word} (r : IsPar g m p n a b) (s : IsPar g m q k a c) → EndsProcess b → EndsProcess c
      → (par_located r ≡ par_located s) × (n ≡ k) × (b ≡ c)
  one_located {n = n} {k = k} {b = b} {c = c} r s e f =
      let d = max n k in
      let x = par_located r in
      let y = par_located s in
      let same : ◌≡◌ {A = Read Levelled} (Some ((x, n), b)) (Some ((y, k), c)) = sym (par_read r d (omega arith) e) ∙ par_read s d (omega arith) f in
      let both : ◌≡◌ {A = Levelled × List Word} ((x, n), b) ((y, k), c) = cc (same) in
      (ap (λ x. x.0.0) both, ap (λ x. x.0.1) both, ap (λ x. x.1) both)

  pub one_process : (g : Sig) (m : Limits) (n k : ℕ) (p q : Written) (a b c : List Word) → IsPar g m p n a b → IsPar g m q k a c → EndsProcess b → EndsProcess c → (p ≡ q) × (n ≡ k) × (b ≡ c)
  one_process g m n k p q a b c r s e f =
      let same = one_located r s e f in (sym (par_plain r) ∙ ap without_numbers same.0 ∙ par_plain s, same.1, same.2)
