-- Who stands as a live fact, and the one owner of a tag.
use Rattle.sap_translate.specs.Members.{Member}
use Rattle.sap_translate.proofs.Shared.Facts.{names_apart, eq_self}
use Rattle.sap_translate.proofs.Shared.Inputs.{last_same, init_same}
use Rattle.sap_translate.proofs.Shared.Lookups.{only_member}
use Rattle.sap_translate.proofs.Shared.Names.{semi_name_same}
use Rattle.sap_translate.specs.relation.Envs.{Env, names, values}
use Rattle.sap_templates.specs.ChannelFacts.{msg_fact, ack_fact}
use Rattle.sap_translate.specs.relation.Totals.{total}
use Rattle.sap_translate.specs.relation.Locks.{Holder}
use Rattle.sap_translate.specs.relation.Agents.{Agent, unborn, running, copying, awaiting, received, stands_as}
use Rattle.sap_translate.specs.relation.Counts.{count_name, count_tag, is_control}
use Rattle.sap_translate.specs.relation.Related.{NamesPart}
use Rattle.sap_place.specs.StateFacts.{state_fact, copies_fact, waits_fact}
use Rattle.sap_process.specs.Configuration.{Config}
use Rattle.sap_process.specs.Proc.{Proc}
use Rattle.sap_rule.specs.RuleSteps.{RuleState}
use Rattle.sap_terms.specs.Tree.{Tree, fresh}
use Rattle.sap_terms.specs.declared.fact.Fact.{Fact}
use Rattle.std.proofs.Common.{◌≡◌, ℕ, zero, suc, ◌+◌, ◌≤◌, List, [], ◌∷◌, ◌++◌, Option, Some, refl, sym, ap, ◌∙◌, arith, true, false, slice_get, subst}

pub record Owner (agents : List (Option Agent)) (f : Fact) : Type 0 where
  pub thread : ℕ
  pub agent : Agent
  pub is : slice_get agents thread ≡ Some (Some agent)
  pub stands : Member f (stands_as agent)

-- for each live fact of control who stands for it
abbrev pub Owners : List (Option Agent) → RuleState → Type 0
Owners agents s = (k : ℕ) (f : Fact) → is_control f ≡ true → slice_get s.facts k ≡ Some (Some f) → Owner agents f

-- which agents stand as a message, an acknowledgement, a waiting sender

differs : (f g : Fact) → (f.name ≡ g.name → ⊥) → f ≡ g → ⊥
differs f g h e = h (ap (λ (z : Fact). z.name) e)

-- a member of two facts
pub data OfTwo (f a b : Fact) : Type 0 where
  first : f ≡ a → OfTwo f a b
  second : f ≡ b → OfTwo f a b

pub of_two : {f a b : Fact} → Member f (a ∷ b ∷ []) → OfTwo f a b
of_two Member.here = first refl
of_two (Member.later m) = second (only_member m)

pub record AckOwner (agents : List (Option Agent)) (where_at : ℕ) (t : Tree) : Type 0 where
  pub thread : ℕ
  pub from : thread ≡ where_at
  pub path : List ℕ
  pub env : Env
  pub m : Tree
  pub n : Tree
  pub body : Proc
  pub tag : ℕ
  pub is : slice_get agents thread ≡ Some (Some (received path env m n body tag))
  pub same : t ≡ fresh tag

ack_arg : (t u : Tree) → ack_fact t ≡ ack_fact u → t ≡ u
ack_arg t u e = let h : (ack_fact t).args ≡ (ack_fact u).args = ap (λ (z : Fact). z.args) e in cc

ack_state : (t : Tree) (path : List ℕ) (args : List Tree) → ack_fact t ≡ state_fact path args → ⊥
ack_state t path args = differs (ack_fact t) (state_fact path args) (λ e. names_apart (ack_fact t).name (state_fact path args).name refl e)

ack_semi : (t : Tree) (path : List ℕ) (args : List Tree) → ack_fact t ≡ copies_fact path args → ⊥
ack_semi t path args = differs (ack_fact t) (copies_fact path args) (λ e. names_apart (ack_fact t).name (copies_fact path args).name refl e)

ack_sent : (t : Tree) (path : List ℕ) (args : List Tree) → ack_fact t ≡ waits_fact path args → ⊥
ack_sent t path args = differs (ack_fact t) (waits_fact path args) (λ e. names_apart (ack_fact t).name (waits_fact path args).name refl e)

ack_msg : (t u x y : Tree) → ack_fact t ≡ msg_fact u x y → ⊥
ack_msg t u x y = differs (ack_fact t) (msg_fact u x y) (λ e. names_apart (ack_fact t).name (msg_fact u x y).name refl e)

pub ack_owner : (agents : List (Option Agent)) (t : Tree) → (o : Owner agents (ack_fact t)) → AckOwner agents o.thread t
ack_owner agents t o = go o.agent o.is o.stands
  where
    go : (a : Agent) → slice_get agents o.thread ≡ Some (Some a) → Member (ack_fact t) (stands_as a) → AckOwner agents o.thread t
    go (unborn body) e m = elim m [ ]
    go (running path env body) e m = absurd (ack_state t path (values env) (only_member m))
    go (copying path env body) e m = absurd (ack_semi t path (values env) (only_member m))
    go (awaiting path env x y i j body g) e m = elim (of_two m) [
      | first h ↦ absurd (ack_msg t (fresh g) i j h)
      | second h ↦ absurd (ack_sent t path (values env ++ fresh g ∷ []) h)
    ]
    go (received path env x y body g) e m = elim (of_two m) [
      | first h ↦ record { thread = o.thread; from = refl; path = path; env = env; m = x; n = y; body = body; tag = g; is = e; same = ack_arg t (fresh g) h }
      | second h ↦ absurd (ack_sent t path (values env ++ fresh g ∷ []) h)
    ]

-- the owner of a linear semi-state carries its tag
pub record SentOwner (agents : List (Option Agent)) (where_at : ℕ) (path : List ℕ) (t : Tree) (args : List Tree) : Type 0 where
  pub thread : ℕ
  pub from : thread ≡ where_at
  pub agent : Agent
  pub is : slice_get agents thread ≡ Some (Some agent)
  pub stands : Member (waits_fact path (args ++ t ∷ [])) (stands_as agent)
  pub tag : ℕ
  pub same : t ≡ fresh tag
  pub counts : count_tag tag (Some agent) ≡ 1

sent_tag : (path q : List ℕ) (t u : Tree) (a b : List Tree) → waits_fact path (a ++ t ∷ []) ≡ waits_fact q (b ++ u ∷ []) → t ≡ u
sent_tag path q t u a b e = last_same a b t u (ap (λ (z : Fact). z.args) e)

self_counts : (n : ℕ) → count_name n n ≡ 1
self_counts n = rw (eq_self n) refl

pub sent_owner : (agents : List (Option Agent)) (path : List ℕ) (t : Tree) (args : List Tree) → (o : Owner agents (waits_fact path (args ++ t ∷ []))) → SentOwner agents o.thread path t args
sent_owner agents path t args o = go o.agent o.is o.stands
  where
    f : Fact
    f = waits_fact path (args ++ t ∷ [])

    state : (q : List ℕ) (b : List Tree) → waits_fact path (args ++ t ∷ []) ≡ state_fact q b → ⊥
    state q b = differs (waits_fact path (args ++ t ∷ [])) (state_fact q b) (λ e. names_apart (waits_fact path (args ++ t ∷ [])).name (state_fact q b).name refl e)

    semi : (q : List ℕ) (b : List Tree) → waits_fact path (args ++ t ∷ []) ≡ copies_fact q b → ⊥
    semi q b e = let h : false ≡ true = ap (λ (z : Fact). z.persistent) e in cc

    msg : (u x y : Tree) → waits_fact path (args ++ t ∷ []) ≡ msg_fact u x y → ⊥
    msg u x y = differs (waits_fact path (args ++ t ∷ [])) (msg_fact u x y) (λ e. names_apart (waits_fact path (args ++ t ∷ [])).name (msg_fact u x y).name refl e)

    ack : (u : Tree) → waits_fact path (args ++ t ∷ []) ≡ ack_fact u → ⊥
    ack u = differs (waits_fact path (args ++ t ∷ [])) (ack_fact u) (λ e. names_apart (waits_fact path (args ++ t ∷ [])).name (ack_fact u).name refl e)

    go : (a : Agent) → slice_get agents o.thread ≡ Some (Some a) → Member (waits_fact path (args ++ t ∷ [])) (stands_as a) → SentOwner agents o.thread path t args
    go (unborn body) e m = elim m [ ]
    go (running q env body) e m = absurd (state q (values env) (only_member m))
    go (copying q env body) e m = absurd (semi q (values env) (only_member m))
    go (awaiting q env x y i j body g) e m = elim (of_two m) [
      | first h ↦ absurd (msg (fresh g) i j h)
      | second h ↦ record { thread = o.thread; from = refl; agent = awaiting q env x y i j body g; is = e; stands = m; tag = g; same = sent_tag path q t (fresh g) args (values env) h; counts = self_counts g }
    ]
    go (received q env x y body g) e m = elim (of_two m) [
      | first h ↦ absurd (ack (fresh g) h)
      | second h ↦ record { thread = o.thread; from = refl; agent = received q env x y body g; is = e; stands = m; tag = g; same = sent_tag path q t (fresh g) args (values env) h; counts = self_counts g }
    ]

-- two things that weigh 1 where all weigh at most 1 are at one place
one_place : {A : Type 0} (w : A → ℕ) (xs : List A) (i : ℕ) (x : A) → slice_get xs i ≡ Some x → w x ≤ total w xs
one_place w [] i x e = absurd (cc)
one_place w (z ∷ xs) zero x e = let same : w z ≡ w x = cc in omega arith
one_place w (z ∷ xs) (suc i) x e = let h = one_place w xs i x e in omega arith

pub same_time : {A : Type 0} (w : A → ℕ) (xs : List A) (i j : ℕ) (x y : A) → slice_get xs i ≡ Some x → slice_get xs j ≡ Some y → w x ≡ 1 → w y ≡ 1 → total w xs ≤ 1 → i ≡ j
same_time w [] i j x y e f g h k = absurd (cc)
same_time w (z ∷ xs) zero zero x y e f g h k = refl
same_time w (z ∷ xs) zero (suc j) x y e f g h k = let a : w z ≡ w x = cc in let b = one_place w xs j y f in absurd (omega arith)
same_time w (z ∷ xs) (suc i) zero x y e f g h k = let a : w z ≡ w y = cc in let b = one_place w xs i x e in absurd (omega arith)
same_time w (z ∷ xs) (suc i) (suc j) x y e f g h k = ap suc (same_time w xs i j x y e f g h (omega arith))

-- an acknowledgement and a linear semi-state with one tag are one sender's
pub record Handshake (agents : List (Option Agent)) (where_at also_at : ℕ) (path : List ℕ) (t : Tree) (args : List Tree) : Type 0 where
  pub thread : ℕ
  pub from : thread ≡ where_at
  pub also : thread ≡ also_at
  pub env : Env
  pub m : Tree
  pub n : Tree
  pub body : Proc
  pub tag : ℕ
  pub is : slice_get agents thread ≡ Some (Some (received path env m n body tag))
  pub same : t ≡ fresh tag
  pub bound : args ≡ values env

pub handshake : {holders : List Holder} (agents : List (Option Agent)) (c : Config) (s : RuleState) (i j : ℕ) (path : List ℕ) (t : Tree) (args : List Tree) → (own : Owners agents s) → NamesPart agents c s holders → (there : slice_get s.facts i ≡ Some (Some (waits_fact path (args ++ t ∷ [])))) → (ack : slice_get s.facts j ≡ Some (Some (ack_fact t))) → Handshake agents (own i (waits_fact path (args ++ t ∷ [])) refl there).thread (own j (ack_fact t) refl ack).thread path t args
handshake agents c s i j path t args own names e f =
    let a = ack_owner agents t (own j (ack_fact t) refl f) in
    let b = sent_owner agents path t args (own i (waits_fact path (args ++ t ∷ [])) refl e) in
    let tags : fresh a.tag ≡ fresh b.tag = sym a.same ∙ b.same in
    let tag : a.tag ≡ b.tag = cc in
    let once = names.once b.tag in
    let shares = names.shares b.tag in
    let one : count_tag b.tag (Some (received a.path a.env a.m a.n a.body a.tag)) ≡ 1 = ap (λ k. count_name b.tag k) tag ∙ self_counts b.tag in
    let place : a.thread ≡ b.thread = same_time (count_tag b.tag) agents a.thread b.thread (Some (received a.path a.env a.m a.n a.body a.tag)) (Some b.agent) a.is b.is one b.counts (omega arith) in
    let agent : Some (Some (received a.path a.env a.m a.n a.body a.tag)) ≡ Some (Some b.agent) = sym a.is ∙ ap (λ k. slice_get agents k) place ∙ b.is in
    let agent' : received a.path a.env a.m a.n a.body a.tag ≡ b.agent = some_some agent in
    by_two a (place ∙ b.from) (of_two (subst (λ z. Member (waits_fact path (args ++ t ∷ [])) (stands_as z)) (sym agent') b.stands))
  where
    some_some : {x y : Agent} → Some (Some x) ≡ Some (Some y) → x ≡ y
    some_some h = cc

    by_two : (a : AckOwner agents (own j (ack_fact t) refl f).thread t) → a.thread ≡ (own i (waits_fact path (args ++ t ∷ [])) refl e).thread → OfTwo (waits_fact path (args ++ t ∷ [])) (ack_fact (fresh a.tag)) (waits_fact a.path (values a.env ++ fresh a.tag ∷ [])) → Handshake agents (own i (waits_fact path (args ++ t ∷ [])) refl e).thread (own j (ack_fact t) refl f).thread path t args
    by_two a from (first h) = absurd (ack_sent (fresh a.tag) path (args ++ t ∷ []) (sym h))
    by_two a from (second h) =
        let paths : path ≡ a.path = semi_name_same path a.path (ap (λ (z : Fact). z.name) h) in
        let rest : args ++ t ∷ [] ≡ values a.env ++ fresh a.tag ∷ [] = ap (λ (z : Fact). z.args) h in
        record {
          thread = a.thread;
          from = from;
          also = a.from;
          env = a.env;
          m = a.m;
          n = a.n;
          body = a.body;
          tag = a.tag;
          is = a.is ∙ ap (λ q. Some (Some (received q a.env a.m a.n a.body a.tag))) (sym paths);
          same = a.same;
          bound = init_same args (values a.env) t (fresh a.tag) rest;
        }
