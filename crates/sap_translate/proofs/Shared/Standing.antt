-- Each live state fact has its thread.
use Rattle.sap_translate.specs.Members.{Member}
use Rattle.sap_translate.proofs.Shared.Facts.{names_apart}
use Rattle.sap_translate.proofs.Shared.Lookups.{only_member}
use Rattle.sap_translate.proofs.Shared.Names.{semi_name_same, state_name_same}
use Rattle.sap_translate.proofs.Shared.Owners.{Owner, Owners, first, second, of_two}
use Rattle.sap_translate.specs.relation.Envs.{Env, values}
use Rattle.sap_templates.specs.ChannelFacts.{msg_fact, ack_fact}
use Rattle.sap_translate.specs.relation.Agents.{Agent, unborn, running, copying, awaiting, received, stands_as}
use Rattle.sap_place.specs.StateFacts.{state_fact, copies_fact, waits_fact}
use Rattle.sap_process.specs.Proc.{Proc}
use Rattle.sap_rule.specs.RuleSteps.{RuleState}
use Rattle.sap_terms.specs.Tree.{Tree, fresh}
use Rattle.sap_terms.specs.declared.fact.Fact.{Fact}
use Rattle.std.proofs.Common.{◌≡◌, ℕ, ◌+◌, List, [], ◌∷◌, ◌++◌, Option, Some, refl, sym, ap, ◌∙◌, true, false, slice_get}
use Rattle.std.specs.Str.{bytes_eq}

-- the thread of a live state fact
pub record Standing (agents : List (Option Agent)) (where_at : ℕ) (path : List ℕ) (args : List Tree) : Type 0 where
  pub thread : ℕ
  pub from : thread ≡ where_at
  pub env : Env
  pub body : Proc
  pub is : slice_get agents thread ≡ Some (Some (running path env body))
  pub bound : args ≡ values env

pub record CopyStanding (agents : List (Option Agent)) (where_at : ℕ) (path : List ℕ) (args : List Tree) : Type 0 where
  pub thread : ℕ
  pub from : thread ≡ where_at
  pub env : Env
  pub body : Proc
  pub is : slice_get agents thread ≡ Some (Some (copying path env body))
  pub bound : args ≡ values env

module _ (agents : List (Option Agent)) (path : List ℕ) (args : List Tree) where
  standing : (o : Owner agents (state_fact path args)) → Standing agents o.thread path args
  standing o = go o.agent o.is o.stands
    where
      name : (g : Fact) → bytes_eq (state_fact path args).name g.name ≡ false → state_fact path args ≡ g → ⊥
      name g z e = names_apart (state_fact path args).name g.name z (ap (λ (z : Fact). z.name) e)

      go : (a : Agent) → slice_get agents o.thread ≡ Some (Some a) → Member (state_fact path args) (stands_as a) → Standing agents o.thread path args
      go (unborn body) e m = elim m [ ]
      go (running q env body) e m =
          let same = only_member m in
          let paths : path ≡ q = state_name_same path q (ap (λ (z : Fact). z.name) same) in
          record { thread = o.thread; from = refl; env = env; body = body; is = e ∙ ap (λ i. Some (Some (running i env body))) (sym paths); bound = ap (λ (z : Fact). z.args) same }
      go (copying q env body) e m = absurd (name (copies_fact q (values env)) refl (only_member m))
      go (awaiting q env x y i j body g) e m = elim (of_two m) [ first h ↦ absurd (name (msg_fact (fresh g) i j) refl h) | second h ↦ absurd (name (waits_fact q (values env ++ fresh g ∷ [])) refl h) ]
      go (received q env x y body g) e m = elim (of_two m) [ first h ↦ absurd (name (ack_fact (fresh g)) refl h) | second h ↦ absurd (name (waits_fact q (values env ++ fresh g ∷ [])) refl h) ]

  pub agent_of : (s : RuleState) (k : ℕ) (own : Owners agents s) (e : slice_get s.facts k ≡ Some (Some (state_fact path args))) → Standing agents (own k (state_fact path args) refl e).thread path args
  agent_of s k own e = standing (own k (state_fact path args) refl e)

  copy_standing : (o : Owner agents (copies_fact path args)) → CopyStanding agents o.thread path args
  copy_standing o = go o.agent o.is o.stands
    where
      name : (g : Fact) → bytes_eq (copies_fact path args).name g.name ≡ false → copies_fact path args ≡ g → ⊥
      name g z e = names_apart (copies_fact path args).name g.name z (ap (λ (z : Fact). z.name) e)

      linear' : (q : List ℕ) (b : List Tree) → copies_fact path args ≡ waits_fact q b → ⊥
      linear' q b e = let h : true ≡ false = ap (λ (z : Fact). z.persistent) e in cc

      go : (a : Agent) → slice_get agents o.thread ≡ Some (Some a) → Member (copies_fact path args) (stands_as a) → CopyStanding agents o.thread path args
      go (unborn body) e m = elim m [ ]
      go (running q env body) e m = absurd (name (state_fact q (values env)) refl (only_member m))
      go (copying q env body) e m =
          let same = only_member m in
          let paths : path ≡ q = semi_name_same path q (ap (λ (z : Fact). z.name) same) in
          record { thread = o.thread; from = refl; env = env; body = body; is = e ∙ ap (λ i. Some (Some (copying i env body))) (sym paths); bound = ap (λ (z : Fact). z.args) same }
      go (awaiting q env x y i j body g) e m = elim (of_two m) [ first h ↦ absurd (name (msg_fact (fresh g) i j) refl h) | second h ↦ absurd (linear' q (values env ++ fresh g ∷ []) h) ]
      go (received q env x y body g) e m = elim (of_two m) [ first h ↦ absurd (name (ack_fact (fresh g)) refl h) | second h ↦ absurd (linear' q (values env ++ fresh g ∷ []) h) ]

  pub copy_agent_of : (s : RuleState) (k : ℕ) (own : Owners agents s) (e : slice_get s.facts k ≡ Some (Some (copies_fact path args))) → CopyStanding agents (own k (copies_fact path args) refl e).thread path args
  copy_agent_of s k own e = copy_standing (own k (copies_fact path args) refl e)

-- who waits with a message
pub record MsgOwner (agents : List (Option Agent)) (where_at : ℕ) (t x y : Tree) : Type 0 where
  pub thread : ℕ
  pub from : thread ≡ where_at
  pub path : List ℕ
  pub env : Env
  pub m : Tree
  pub n : Tree
  pub body : Proc
  pub tag : ℕ
  pub is : slice_get agents thread ≡ Some (Some (awaiting path env m n x y body tag))
  pub same : t ≡ fresh tag

pub msg_owner : (agents : List (Option Agent)) (t x y : Tree) → (o : Owner agents (msg_fact t x y)) → MsgOwner agents o.thread t x y
msg_owner agents t x y o = go o.agent o.is o.stands
  where
    name : (g : Fact) → bytes_eq (msg_fact t x y).name g.name ≡ false → msg_fact t x y ≡ g → ⊥
    name g z e = names_apart (msg_fact t x y).name g.name z (ap (λ (z : Fact). z.name) e)

    go : (a : Agent) → slice_get agents o.thread ≡ Some (Some a) → Member (msg_fact t x y) (stands_as a) → MsgOwner agents o.thread t x y
    go (unborn body) e m = elim m [ ]
    go (running q env body) e m = absurd (name (state_fact q (values env)) refl (only_member m))
    go (copying q env body) e m = absurd (name (copies_fact q (values env)) refl (only_member m))
    go (awaiting q env u v i j body g) e m = elim (of_two m) [
      | first h ↦ (let args : t ∷ x ∷ y ∷ [] ≡ fresh g ∷ i ∷ j ∷ [] = ap (λ (z : Fact). z.args) h in
          let a : i ≡ x = cc in
          let b : j ≡ y = cc in
          record { thread = o.thread; from = refl; path = q; env = env; m = u; n = v; body = body; tag = g; is = e ∙ (λ k. Some (Some (awaiting q env u v (a k) (b k) body g))); same = cc })
      | second h ↦ absurd (name (waits_fact q (values env ++ fresh g ∷ [])) refl h)
    ]
    go (received q env u v body g) e m = elim (of_two m) [ first h ↦ absurd (name (ack_fact (fresh g)) refl h) | second h ↦ absurd (name (waits_fact q (values env ++ fresh g ∷ [])) refl h) ]
