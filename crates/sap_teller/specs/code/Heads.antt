-- What is kept of a line before it is done, and what it does by that.
use denote.Ref.{Bor}
use Rattle.std.specs.Prelude.{◌≡◌, ◌⊎◌, ⊤, ℕ, Bool, List, [], length, Option, Some, None, MatchOption, slice_get, true, false}
use Rattle.std.specs.Global.{Box}
use Rattle.std.specs.List.{range_with_len}
use Rattle.sap_calc.specs.Running.{Running, configuration, WouldFind, FindsNothing}
use Rattle.sap_calc.specs.ThreadHeads.{IsNobody, HasHead}
use Rattle.sap_called.specs.Names.{Draw, adversary_word, draw, with_draw}
use Rattle.sap_deduce.specs.Entries.{terms_of}
use Rattle.sap_facts.specs.Cited.{cited_at}
use Rattle.sap_lines.specs.Answers.{MatchesExactly}
use Rattle.sap_lines.specs.Lines.{IsProcessLine}
use Rattle.sap_lines.specs.declared.form.Form.{Form}
use Rattle.sap_lines.specs.declared.form.Form.TheVariants as form
use Rattle.sap_process.specs.Configuration.{Config}
use Rattle.sap_process.specs.Heads.{facts_terms}
use Rattle.sap_rewrite.specs.Match.{IsOnlyMatch, HasNoMatch}
use Rattle.sap_runs.specs.Inner.{InnerAction}
use Rattle.sap_runs.specs.Limits.{HasFewNodes}
use Rattle.sap_runs.specs.declared.process_step.PStep.{PStep}
use Rattle.sap_runs.specs.declared.process_step.PStep.TheVariants as line
use Rattle.sap_terms.specs.Equations.{Equations, app2, pair_name}
use Rattle.sap_terms.specs.Normal.{IsNormalForm}
use Rattle.sap_terms.specs.Piles.{Pile}
use Rattle.sap_terms.specs.Tree.{Tree, apply, trees_of}
use Rattle.sap_terms.specs.View.{tree}
use Rattle.sap_terms.specs.declared.binding.Binding.{Binding}
use Rattle.sap_terms.specs.declared.fact.Fact.{Fact}
use Rattle.sap_terms.specs.declared.term.Term.{Term}
use Rattle.sap_terms.specs.declared.var.Var.{Var}
use Rattle.sap_tell.specs.Told.{IsDoing}
use Rattle.sap_teller.specs.code.Doings.{action_of, outcomes_of}
use Rattle.sap_teller.specs.declared.before.Before.{Before}
use Rattle.sap_teller.specs.declared.doing.Doing.{Doing}
use Rattle.sap_teller.specs.declared.said.Two.{Two}
use Rattle.sap_teller.specs.declared.doing.Doing.TheVariants as does

-- the thread whose head tells what the line does, and the one that sends to it
abbrev pub head_of : PStep → Option ℕ
head_of (line.New t n) = Some t
head_of (line.Out t) = Some t
head_of (line.Send t k) = Some t
head_of (line.In t k) = Some t
head_of (line.Sync s t) = Some t
head_of (line.Then t) = Some t
head_of (line.Else t) = Some t
head_of (line.Event t) = Some t
head_of (line.Insert t) = Some t
head_of (line.Delete t) = Some t
head_of (line.Found t) = Some t
head_of (line.Missing t) = Some t
head_of (line.Lock t) = Some t
head_of (line.Unlock t) = Some t
head_of (line.Embedded t ks b) = Some t
head_of _ = None

abbrev pub sender_of : PStep → Option ℕ
sender_of (line.Sync s t) = Some s
sender_of _ = None

-- the facts that it cites
abbrev pub cited_of : PStep → List ℕ
cited_of (line.Embedded t ks b) = ks
cited_of _ = []

-- what stands at a head that was found, where `0` stands for none
abbrev pub form_at : Option (Box Form) → Form
form_at None = form.Nil
form_at (Some f) = f.value

-- the same where it is lent
abbrev pub form_of : Option (Bor Form) → Form
form_of None = form.Nil
form_of (Some f) = f.now

-- what stands at the head of the thread, if one is asked for and it runs
abbrev pub IsHead : Config → Option ℕ → Option (Box Form) → Type 0
IsHead c None o = ⊤
IsHead c (Some t) o = MatchOption o (IsNobody c t) (λ f. HasHead c t f.value)

-- what its key has, if it looks
abbrev pub IsStored : Running → PStep → Option Term → Type 0
IsStored r (line.Found t) o = MatchOption o (FindsNothing r t) (λ v. WouldFind r t (tree v))
IsStored r _ o = ⊤

-- what is kept of it
pub record IsBefore (r : Running) (step : PStep) (b : Before) : Type 0 where
  pub threads : b.threads ≡ length r.threads
  pub entries : b.entries ≡ length r.known
  pub facts : b.facts ≡ length r.facts
  pub head : IsHead (configuration r) (head_of step) b.head
  pub sender : IsHead (configuration r) (sender_of step) b.sender
  pub stored : IsStored r step b.stored
  pub cited : b.cited ≡ cited_at r.facts (cited_of step)

-- these are what is kept of it
pub record IsKept (r : Running) (facts : ℕ) (cited : List Fact) (stored : Option Term) (head sender : Option (Box Form)) (b : Before) : Type 0 where
  pub threads : b.threads ≡ length r.threads
  pub entries : b.entries ≡ length r.known
  pub same_facts : b.facts ≡ facts
  pub same_head : b.head ≡ head
  pub same_sender : b.sender ≡ sender
  pub same_stored : b.stored ≡ stored
  pub same_cited : b.cited ≡ cited

-- where the line leads from the one to the other, this is what it does, whichever names were drawn
abbrev pub Does : Running → Running → PStep → Doing → Type 0
Does r z step x =
    (ds : List Draw) (inner : List InnerAction) (label : List Fact) → IsProcessLine r.sig HasFewNodes (configuration r) (terms_of r.known) step inner label (configuration z) (terms_of z.known)
    → IsDoing r.sig ds (configuration r) (terms_of r.known) step inner label (terms_of z.known) (action_of ds label x) (outcomes_of ds x)

-- the same from wherever this was kept, and what is matched is matched exactly
abbrev pub IsFoundOut : Before → Running → PStep → Doing → Type 0
IsFoundOut b z step x = (r : Running) → z.sig ≡ r.sig → MatchesExactly r.sig (configuration r) (terms_of r.known) → IsBefore r step b → Does r z step x

-- it is made of this term, as it stands, and its normal form
pub record IsOfOne (e : Equations) (K : Bor Term → Term → Doing) (m : Term) (x : Doing) : Type 0 where
  pub standing : Bor Term
  pub stands : standing.now ≡ m
  pub term : Term
  pub form : IsNormalForm e (tree m) (tree term)
  pub is : x ≡ K standing term

-- or of two, and theirs
pub record IsOfTwo (e : Equations) (K : Two → Term → Term → Doing) (m n : Term) (x : Doing) : Type 0 where
  pub standing : Two
  pub left_stands : standing.left.now ≡ m
  pub right_stands : standing.right.now ≡ n
  pub left : Term
  pub right : Term
  pub left_form : IsNormalForm e (tree m) (tree left)
  pub right_form : IsNormalForm e (tree n) (tree right)
  pub is : x ≡ K standing left right

-- by a head of each form
abbrev pub IsMade : ℕ → Form → Doing → Type 0
IsMade n f x = (v : Var) → f ≡ form.New v → (r : Bor Var) × (r.now ≡ v) × (x ≡ does.Makes r n)

abbrev pub IsCompared : Equations → Bool → Form → Doing → Type 0
IsCompared e same f x = (m n : Term) → f ≡ form.If m n → IsOfTwo e (λ s a b. does.Compares s a b same) m n x

abbrev pub IsInserted : Equations → Form → Doing → Type 0
IsInserted e f x = (m n : Term) → f ≡ form.Insert m n → IsOfTwo e does.Inserts m n x

abbrev pub IsDeleted : Equations → Form → Doing → Type 0
IsDeleted e f x = (m : Term) → f ≡ form.Delete m → IsOfOne e does.Deletes m x

abbrev pub IsLooked : Equations → Option (Bor Term) → Form → Doing → Type 0
IsLooked e o f x = (m : Term) (v : Var) → f ≡ form.Lookup m v → (r : Bor Var) × (r.now ≡ v) × IsOfOne e (λ s k. does.Looks s k r o) m x

abbrev pub IsLocked : Equations → Form → Doing → Type 0
IsLocked e f x = (m : Term) (i : ℕ) → f ≡ form.Lock m i → IsOfOne e (λ s k. does.Holds s k true) m x

abbrev pub IsUnlocked : Equations → Form → Doing → Type 0
IsUnlocked e f x = (m : Term) (i : ℕ) → f ≡ form.Unlock m i → IsOfOne e (λ s k. does.Holds s k false) m x

-- what a pattern binds by a term, if it fits
abbrev pub IsFitted : Tree → Tree → (List Binding → Doing) → Doing → Type 0
IsFitted p u K x = HasNoMatch p u [] ⊎ ((b : List Binding) × (x ≡ K b) × IsOnlyMatch p u [] b)

-- what an input binds by an entry: its pattern is matched with the entry, or with the second part of the pair that it is
pub record IsTakenBy (u : Bor Term) (f : Form) (x : Doing) : Type 0 where
  pub alone : (n : Term) → f ≡ form.In n → IsFitted (tree n) (tree u.now) (does.Takes u false) x
  pub on_channel : (m n : Term) → f ≡ form.Recv m n → (a b : Tree) → tree u.now ≡ app2 pair_name a b → IsFitted (tree n) b (does.Takes u true) x

-- what one that takes binds by what another sends
pub record IsMetOn (e : Equations) (m n p : Term) (x : Doing) : Type 0 where
  pub standing : Two
  pub left_stands : standing.left.now ≡ m
  pub right_stands : standing.right.now ≡ n
  pub channel : Term
  pub message : Term
  pub channel_form : IsNormalForm e (tree m) (tree channel)
  pub message_form : IsNormalForm e (tree n) (tree message)
  pub fitted : IsFitted (tree p) (tree message) (does.Meets standing channel message) x

abbrev pub IsMetBy : Equations → Form → Form → Doing → Type 0
IsMetBy e f h x =
    (m n l p : Term) → f ≡ form.Send m n → h ≡ form.Recv l p → IsMetOn e m n p x

-- what an event shows, as it stands
abbrev pub IsShownBy : Form → Doing → Type 0
IsShownBy f x = (e : Fact) → f ≡ form.Event e → (r : Bor Fact) × (r.now ≡ e) × (x ≡ does.Shows r)

-- what an input binds by the entry of a number
pub record IsTakenFrom (u : Tree) (f : Form) (x : Doing) : Type 0 where
  pub term : Bor Term
  pub same : tree term.now ≡ u
  pub by : IsTakenBy term f x

abbrev pub IsTakenAt : List Tree → ℕ → Form → Doing → Type 0
IsTakenAt es k f x = (u : Tree) → slice_get es k ≡ Some u → IsTakenFrom u f x

-- it is made of the entry of a number
pub record IsOfTree (K : Bor Term → Doing) (u : Tree) (x : Doing) : Type 0 where
  pub term : Bor Term
  pub same : tree term.now ≡ u
  pub is : x ≡ K term

abbrev pub IsOfEntry : List Tree → ℕ → (Bor Term → Doing) → Doing → Type 0
IsOfEntry es k K x = (u : Tree) → slice_get es k ≡ Some u → IsOfTree K u x

-- what is put out, as it stands, and the entry of this number
pub record IsSent (m : Term) (u : Tree) (x : Doing) : Type 0 where
  pub standing : Bor Term
  pub stands : standing.now ≡ m
  pub term : Bor Term
  pub same : tree term.now ≡ u
  pub is : x ≡ does.Sends standing term

abbrev pub IsSentBy : List Tree → ℕ → Form → Doing → Type 0
IsSentBy es k f x = (m : Term) (u : Tree) → f ≡ form.Out m → slice_get es k ≡ Some u → IsSent m u x

-- what is sent on a channel, as both stand, and the entries of these numbers
pub record IsSentOn (m n : Term) (u v : Tree) (x : Doing) : Type 0 where
  pub standing : Two
  pub left_stands : standing.left.now ≡ m
  pub right_stands : standing.right.now ≡ n
  pub terms : Two
  pub left_same : tree terms.left.now ≡ u
  pub right_same : tree terms.right.now ≡ v
  pub is : x ≡ does.SendsOn standing terms

abbrev pub IsSentOnBy : List Tree → ℕ → ℕ → Form → Doing → Type 0
IsSentOnBy es k j f x = (m n : Term) (u v : Tree) → f ≡ form.Send m n → slice_get es k ≡ Some u → slice_get es j ≡ Some v → IsSentOn m n u v x

-- the arguments of facts, as one tree
abbrev pub together : List Fact → Tree
together fs = apply [] (trees_of (facts_terms fs))

-- what a rule binds by the facts that are cited, where it adds these
abbrev pub IsUsedBy : Bor (List Fact) → List Fact → Bor (List Binding) → Form → Doing → Type 0
IsUsedBy left right d f x = (l e r : List Fact) → f ≡ form.Embedded l e r → IsFitted (together l) (together left.now) (λ b. does.Uses left right b d) x

-- and where it adds those with the next numbers
abbrev pub IsUsedAt : List Fact → Pile → ℕ → Bor (List Binding) → Form → Doing → Type 0
IsUsedAt left facts n d f x = (l e r : List Fact) → f ≡ form.Embedded l e r → (s : Bor (List Fact)) × (s.now ≡ left) × IsFitted (together l) (together left) (λ b. does.Uses s (cited_at facts (range_with_len n (length r))) b d) x

-- how many facts a rule adds
abbrev pub count_added : Form → ℕ
count_added (form.Embedded l e r) = length r
count_added _ = 0

-- and which are added by the line
abbrev pub added_by : PStep → Form → ℕ
added_by (line.Embedded t ks b) f = count_added f
added_by _ f = 0

-- the names that were drawn behind a line with this head
abbrev pub noted : List Draw → PStep → Form → List Draw
noted ds (line.New t n) (form.New v) = with_draw ds (draw n v.name)
noted ds (line.Name n) f = with_draw ds (draw n adversary_word)
noted ds _ f = ds
