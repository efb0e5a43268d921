-- The tables behind a line where threads move: by what goes, what comes, and who stands for it.
use Rattle.std.proofs.Common.{append-nil, ◌≡◌, ℕ, zero, suc, ◌+◌, ◌==◌, List, [], ◌∷◌, ◌++◌, Option, Some, None, refl, sym, ap, ◌∙◌, subst, arith, slice_get, slice_set, length, true, false, Bool}
use Rattle.std.specs.List.{AllZip}
use Rattle.sap_terms.specs.AdversaryFacts.{out_fact}
use Rattle.sap_terms.specs.Piles.{Pile, Takes, adds}
use Rattle.sap_terms.specs.Reserved.{is_reserved}
use Rattle.sap_terms.specs.Signature.{Sig}
use Rattle.sap_terms.specs.Tree.{Tree, fresh}
use Rattle.sap_terms.specs.declared.fact.Fact.{Fact}
use Rattle.sap_process.specs.Configuration.{Config}
use Rattle.sap_process.specs.Proc.{Proc, replicated}
use Rattle.sap_place.specs.StateFacts.{state_fact, copies_fact, waits_fact}
use Rattle.sap_rule.specs.RuleSteps.{RuleState}
use Rattle.sap_templates.specs.ChannelFacts.{msg_fact, ack_fact}
use Rattle.sap_translate.specs.Members.{Member}
use Rattle.sap_templates.specs.Templates.{first_of, second_of}
use Rattle.sap_translate.specs.relation.Agents.{Agent, unborn, running, copying, awaiting, received, stands_as}
use Rattle.sap_translate.specs.relation.Answers.{at_first, at_second, goes_on as onwards, goes_aside as aside}
use Rattle.sap_translate.specs.relation.Counts.{is_control}
use Rattle.sap_translate.specs.relation.Envs.{Env, no_env, values}
use Rattle.sap_translate.specs.relation.Names.{state_name}
use Rattle.std.proofs.lemmas.List.{length-append}
use Rattle.std.proofs.lemmas.Option.{slice_get_within}
use Rattle.sap_back.proofs.Changes.{Comes, changed, control_or_user, got_below}
use Rattle.sap_translate.proofs.Shared.Lookups.{get-append_left, get_last, get-set_same, get-set_other, only_member}
use Rattle.sap_back.proofs.Effects.{Gets, Keeps, Trades}
use Rattle.sap_translate.proofs.Shared.Facts.{eq_true, eq_self, names_apart}
use Rattle.sap_translate.proofs.Shared.Owners.{first, second, of_two}
use Rattle.sap_translate.proofs.Shared.Names.{state_name_same}
use Rattle.sap_back.proofs.Takings.{first_gone, first_there, second_there, length_set, takes_kept, takes_later, takes_length}
use Rattle.sap_back.specs.Followed.{SeatedByFact}
use Rattle.sap_process_lines.specs.Tables.{ProcessTables, come, with_thread, with_known, waiting}
use Rattle.sap_back.specs.Tables.{AreProcessTables, IsPending}

-- lists

pub longer_path : (path : List ℕ) (x : ℕ) → path ++ x ∷ [] ≡ path → ⊥
longer_path [] x e = cc
longer_path (y ∷ path) x e = longer_path path x (cc)

two_ends : (path : List ℕ) → path ++ 1 ∷ [] ≡ path ++ 2 ∷ [] → ⊥
two_ends [] e = cc
two_ends (y ∷ path) e = two_ends path (cc)

-- no two of these are the same fact of control
abbrev pub Once : List Fact → Type 0
Once right = (i j : ℕ) (f : Fact) → is_control f ≡ true → slice_get right i ≡ Some f → slice_get right j ≡ Some f → i ≡ j

pub once_none : Once []
once_none i j f control e h = absurd (cc)

pub once_one : (x : Fact) → Once (x ∷ [])
once_one x zero zero f control e h = refl
once_one x zero (suc j) f control e h = absurd (cc)
once_one x (suc i) j f control e h = absurd (cc)

pub once_two : (x y : Fact) → ((f : Fact) → is_control f ≡ true → x ≡ f → y ≡ f → ⊥) → Once (x ∷ y ∷ [])
once_two x y other zero zero f control e h = refl
once_two x y other zero (suc zero) f control e h = absurd (other f control (cc) (cc))
once_two x y other zero (suc (suc j)) f control e h = absurd (cc)
once_two x y other (suc zero) zero f control e h = absurd (other f control (cc) (cc))
once_two x y other (suc zero) (suc zero) f control e h = refl
once_two x y other (suc zero) (suc (suc j)) f control e h = absurd (cc)
once_two x y other (suc (suc i)) j f control e h = absurd (cc)

-- each of them has a name that is taken
abbrev pub Reserved : List Fact → Type 0
Reserved right = (i : ℕ) (f : Fact) → is_reserved f.name ≡ false → slice_get right i ≡ Some f → ⊥

pub reserved_none : Reserved []
reserved_none i f user e = cc

pub reserved_more : (x : Fact) (right : List Fact) → is_reserved x.name ≡ true → Reserved right → Reserved (x ∷ right)
reserved_more x right r more zero f user e = let same : x ≡ f = cc in let z : true ≡ false = sym r ∙ ap (λ (z : Fact). is_reserved z.name) same ∙ user in cc
reserved_more x right r more (suc i) f user e = more i f user e

some_agent : (x y : Agent) → Some (Some x) ≡ Some (Some y) → x ≡ y
some_agent x y e = cc

-- entries

-- the tables of entries and the terms that the rules know, with one more
pub push_entries : (xs : List ℕ) (ys fs : List Tree) (e : ℕ) (x : Tree) → length xs ≡ length ys → ((k i : ℕ) → slice_get xs k ≡ Some i → slice_get fs i ≡ slice_get ys k) → slice_get fs e ≡ Some x
    → (k i : ℕ) → slice_get (xs ++ e ∷ []) k ≡ Some i → slice_get fs i ≡ slice_get (ys ++ x ∷ []) k
push_entries [] [] fs e x l all h zero i n = let same : e ≡ i = cc in ap (λ j. slice_get fs j) (sym same) ∙ h
push_entries [] [] fs e x l all h (suc k) i n = absurd (cc)
push_entries [] (y ∷ ys) fs e x l all h k i n = absurd (omega arith)
push_entries (a ∷ xs) [] fs e x l all h k i n = absurd (omega arith)
push_entries (a ∷ xs) (y ∷ ys) fs e x l all h zero i n = all zero i n
push_entries (a ∷ xs) (y ∷ ys) fs e x l all h (suc k) i n = push_entries xs ys fs e x (omega arith) (λ j o q. all (suc j) o q) h k i n

pub pending_stays : (es fs : List Tree) → ((e : ℕ) (x : Tree) → slice_get es e ≡ Some x → slice_get fs e ≡ Some x) → (x : Option Tree) (k : Option ℕ) → IsPending es x k → IsPending fs x k
pending_stays es fs longer None k h = h
pending_stays es fs longer (Some x) k h = (h.0, h.1, longer h.0 x h.2)

-- entries that stay the same, or one more
pub same_longer : (es fs : List Tree) → fs ≡ es → (e : ℕ) (x : Tree) → slice_get es e ≡ Some x → slice_get fs e ≡ Some x
same_longer es fs same e x h = ap (λ ts. slice_get ts e) same ∙ h

pub more_longer : (es fs : List Tree) (y : Tree) → fs ≡ es ++ y ∷ [] → (e : ℕ) (x : Tree) → slice_get es e ≡ Some x → slice_get fs e ≡ Some x
more_longer es fs y same e x h = ap (λ ts. slice_get ts e) same ∙ get-append_left es (y ∷ []) e x h

-- what a list has where it was set or got one more
data SetOrOld {A : Type 0} (xs : List A) (u : ℕ) (y x : A) : Type 0 where
  was : slice_get xs u ≡ Some x → SetOrOld xs u y x
  now : y ≡ x → SetOrOld xs u y x

set_or_old : {A : Type 0} (xs : List A) (t u : ℕ) (y x : A) → slice_get (slice_set xs t y) u ≡ Some x → SetOrOld xs u y x
set_or_old [] t u y x e = was e
set_or_old (z ∷ xs) zero zero y x e = now (cc)
set_or_old (z ∷ xs) zero (suc u) y x e = was e
set_or_old (z ∷ xs) (suc t) zero y x e = was e
set_or_old (z ∷ xs) (suc t) (suc u) y x e = elim (set_or_old xs t u y x e) [ was h ↦ was h | now h ↦ now h ]

pushed_or_old : {A : Type 0} (xs : List A) (u : ℕ) (y x : A) → slice_get (xs ++ y ∷ []) u ≡ Some x → SetOrOld xs u y x
pushed_or_old [] zero y x e = now (cc)
pushed_or_old [] (suc u) y x e = absurd (cc)
pushed_or_old (z ∷ xs) zero y x e = was e
pushed_or_old (z ∷ xs) (suc u) y x e = elim (pushed_or_old xs u y x e) [ was h ↦ was h | now h ↦ now h ]

-- only the first thread is unborn
abbrev pub Born : List (Option Agent) → Type 0
Born next = (t : ℕ) (body : Proc) → slice_get next t ≡ Some (Some (unborn body)) → t ≡ 0

pub born_set : (base : List (Option Agent)) (t : ℕ) (o : Option Agent) → Born base → ((body : Proc) → o ≡ Some (unborn body) → ⊥) → Born (slice_set base t o)
born_set base t o born other u body e = elim (set_or_old base t u o (Some (unborn body)) e) [ was h ↦ born u body h | now h ↦ absurd (other body h) ]

born_push : (base : List (Option Agent)) (o : Option Agent) → Born base → ((body : Proc) → o ≡ Some (unborn body) → ⊥) → Born (base ++ o ∷ [])
born_push base o born other u body e = elim (pushed_or_old base u o (Some (unborn body)) e) [ was h ↦ born u body h | now h ↦ absurd (other body h) ]

-- whether the agent is past its birth
abbrev pub IsBorn : Agent → Bool
IsBorn (unborn body) = false
IsBorn (running path env body) = true
IsBorn (copying path env body) = true
IsBorn (awaiting path env m n x y body g) = true
IsBorn (received path env m n body g) = true

pub is_born : (a : Agent) → IsBorn a ≡ true → (body : Proc) → Some a ≡ Some (unborn body) → ⊥
is_born a b body e =
    let same : a ≡ unborn body = cc in
    let z : true ≡ false = sym b ∙ ap IsBorn same in
    cc

module _ (g : Sig) (agents : List (Option Agent)) (pending : Option Tree) (c : Config) (es : List Tree) (s : RuleState) (tables : ProcessTables) (old : AreProcessTables agents pending c es s tables) where
  -- facts of control that stay stand for their threads
  abbrev pub Stand : Pile → List (Option Agent) → Type 0
  Stand rest next = (k t : ℕ) (f : Fact) → is_control f ≡ true → slice_get rest k ≡ Some (Some f) → slice_get tables.facts k ≡ Some t → (a : Agent) × (slice_get next t ≡ Some (Some a)) × Member f (stands_as a)

  -- what stays was there
  abbrev pub Kept : Pile → Type 0
  Kept rest = (k : ℕ) (f : Fact) → slice_get rest k ≡ Some (Some f) → slice_get s.facts k ≡ Some (Some f)

  -- the entries stay, under their numbers
  abbrev pub Longer : List Tree → Type 0
  Longer fs = (e : ℕ) (x : Tree) → slice_get es e ≡ Some x → slice_get fs e ≡ Some x

  pub stand_old : (rest : Pile) → Kept rest → Stand rest agents
  stand_old rest kept k t f control e n = old.owners k t f control (kept k f e) n

  -- all agents but that of one thread stay
  stand_step : (rest : Pile) (base next : List (Option Agent)) (t : ℕ) → Stand rest base → ((u : ℕ) (a : Agent) → (u ≡ t → ⊥) → slice_get base u ≡ Some (Some a) → slice_get next u ≡ Some (Some a))
      → ((k : ℕ) (f : Fact) (a : Agent) → is_control f ≡ true → slice_get rest k ≡ Some (Some f) → slice_get tables.facts k ≡ Some t → slice_get base t ≡ Some (Some a) → Member f (stands_as a) → (b : Agent) × (slice_get next t ≡ Some (Some b)) × Member f (stands_as b))
      → Stand rest next
  stand_step rest base next t stand others at k u f control e n = by (u == t) refl
    where
      was : (a : Agent) × (slice_get base u ≡ Some (Some a)) × Member f (stands_as a)
      was = stand k u f control e n

      by : (b : Bool) → (u == t) ≡ b → (a : Agent) × (slice_get next u ≡ Some (Some a)) × Member f (stands_as a)
      by true q =
          let same = eq_true u t q in
          let there = at k f was.0 control e (n ∙ ap (λ i. Some i) same) (ap (λ i. slice_get base i) (sym same) ∙ was.1) was.2 in
          (there.0, ap (λ i. slice_get next i) same ∙ there.1, there.2)
      by false q = (was.0, others u was.0 (λ same. let z : true ≡ false = sym (eq_self u) ∙ ap (λ i. u == i) same ∙ q in cc) was.1, was.2)

  -- one agent is set
  set_others : (base : List (Option Agent)) (t : ℕ) (o : Option Agent) (u : ℕ) (a : Agent) → (u ≡ t → ⊥) → slice_get base u ≡ Some (Some a) → slice_get (slice_set base t o) u ≡ Some (Some a)
  set_others base t o u a other e = get-set_other base t u o (λ same. other (sym same)) ∙ e

  -- what the rules know stays, with more entries
  pub entries_stay : (fs : List Tree) → Longer fs → (k e : ℕ) → slice_get tables.entries k ≡ Some e → slice_get fs e ≡ slice_get s.known k
  entries_stay fs longer k e i =
      let low = slice_get_within tables.entries k e i in
      let all = old.all_entries in
      let x = got_below s.known k (omega arith) in
      longer e x.0 (old.entries k e i ∙ x.1) ∙ sym x.1

  module _ (next : List (Option Agent)) (later : Option Tree) (d : Config) (fs : List Tree) (z : RuleState) (behind : ProcessTables) where
    -- where no fact of the process comes or goes
    pub plain : (rest : Pile) (right : List Fact) (ns : List ℕ) → z.facts ≡ adds rest right → behind.facts ≡ tables.facts ++ ns → Kept rest → length rest ≡ length s.facts
        → AllZip (Comes agents next c d fs) right ns → Once right → Reserved right → Stand rest next → Born next → d.facts ≡ c.facts → behind.piled ≡ tables.piled
        → Longer fs → ((k e : ℕ) → slice_get behind.entries k ≡ Some e → slice_get fs e ≡ slice_get z.known k) → length behind.entries ≡ length z.known
        → IsPending fs later behind.pending → behind.threads ≡ length next → behind.known ≡ length fs → AreProcessTables next later d fs z behind
    plain rest right ns facts numbered kept size comes once reserved stand born same piled longer entries all_entries waits threads known = changed agents pending c es s tables old next later d fs z behind (record {
      rest = rest;
      right = right;
      numbers = ns;
      facts = facts;
      numbered = numbered;
      kept = kept;
      size = size;
      come = comes;
      once = once;
      piled_once = λ i k j f h user free e. absurd (reserved i f user e);
      stand = stand;
      pile = λ k j f user e n. ap (λ xs. slice_get xs j) same ∙ old.piles k j f user (kept k f e) n;
      longer = longer;
      entries = entries;
      waits = waits;
      unborn_first = born;
      all_entries = all_entries;
      threads = threads;
      known = known;
      piled = piled ∙ old.piled ∙ ap (λ (xs : Pile). length xs) (sym same);
    })

    -- and the rules trade facts for others
    traded : (ks : List ℕ) (left right : List Fact) (ns : List ℕ) → (t : Trades s z ks left right) → behind.facts ≡ tables.facts ++ ns → behind.entries ≡ tables.entries → behind.piled ≡ tables.piled
        → AllZip (Comes agents next c d fs) right ns → Once right → Reserved right → Stand t.rest next → Born next → d.facts ≡ c.facts → Longer fs → IsPending fs later behind.pending → behind.threads ≡ length next → behind.known ≡ length fs → AreProcessTables next later d fs z behind
    traded ks left right ns t numbered same_entries piled comes once reserved stand born same longer waits threads known =
        let terms : z.known ≡ s.known = ap (λ (x : RuleState). x.known) t.becomes in
        plain t.rest right ns (ap (λ (x : RuleState). x.facts) t.becomes) numbered (takes_kept t.takes) (takes_length t.takes) comes once reserved stand born same piled longer
        (λ k e i. entries_stay fs longer k e (ap (λ xs. slice_get xs k) (sym same_entries) ∙ i) ∙ ap (λ xs. slice_get xs k) (sym terms))
        (ap (λ (xs : List ℕ). length xs) same_entries ∙ old.all_entries ∙ ap (λ (xs : List Tree). length xs) (sym terms)) waits threads known

  -- a fact unlike that of a running thread
  pub unlike_running : (t : ℕ) (path : List ℕ) (env : Env) (body : Proc) (f : Fact) → slice_get agents t ≡ Some (Some (running path env body)) → (f.name ≡ state_name path → ⊥) → (b : Agent) → slice_get agents t ≡ Some (Some b) → Member f (stands_as b) → ⊥
  unlike_running t path env body f is other b e m =
      let same : running path env body ≡ b = some_agent _ _ (sym is ∙ e) in
      other (ap (λ (z : Fact). z.name) (only_member (subst (λ a. Member f (stands_as a)) (sym same) m)))

  -- a thread that is new had no fact
  unlike_new : (t : ℕ) (f : Fact) → t ≡ length agents → (b : Agent) → slice_get agents t ≡ Some (Some b) → Member f (stands_as b) → ⊥
  unlike_new t f new b e m = let low = slice_get_within agents t (Some b) e in omega arith

  -- a fact unlike those of an agent
  unlike_known : (t : ℕ) (a : Agent) (f : Fact) → slice_get agents t ≡ Some (Some a) → (Member f (stands_as a) → ⊥) → (b : Agent) → slice_get agents t ≡ Some (Some b) → Member f (stands_as b) → ⊥
  unlike_known t a f is other b e m = other (subst (λ x. Member f (stands_as x)) (some_agent b a (sym e ∙ is)) m)

  -- one agent more
  stand_push : (rest : Pile) (base : List (Option Agent)) (a : Agent) → Stand rest base → Stand rest (base ++ Some a ∷ [])
  stand_push rest base a stand k t f control e n = let h = stand k t f control e n in (h.0, get-append_left base (Some a ∷ []) t (Some h.0) h.1, h.2)

  -- the fact that a running thread stood for is gone
  seat_gone : (t k : ℕ) (js : List ℕ) (path : List ℕ) (env : Env) (body : Proc) (left : List Fact) {rest : Pile} → SeatedByFact agents s tables t k path env body → Takes s.facts (k ∷ js) (state_fact path (values env) ∷ left) rest
      → (j : ℕ) (f : Fact) (a : Agent) → is_control f ≡ true → slice_get rest j ≡ Some (Some f) → slice_get tables.facts j ≡ Some t → slice_get agents t ≡ Some (Some a) → Member f (stands_as a) → ⊥
  seat_gone t k js path env body left {rest = rest} seated takes j f a control e n is m =
      let agent : a ≡ running path env body = some_agent _ _ (sym is ∙ seated.stands.thread) in
      let same : f ≡ state_fact path (values env) = only_member (subst (λ b. Member f (stands_as b)) agent m) in
      let number : j ≡ k = old.apart j k t f control (takes_kept takes j f e) (seated.stands.fact ∙ ap (λ h. Some (Some h)) (sym same)) n seated.number in
      first_gone takes refl f (ap (λ i. slice_get rest i) (sym number) ∙ e)

  -- all facts stand for their threads once a running thread is something else
  pub stand_moved : (t k : ℕ) (js : List ℕ) (path : List ℕ) (env : Env) (body : Proc) (left : List Fact) (rest : Pile) (o : Option Agent) → SeatedByFact agents s tables t k path env body → Takes s.facts (k ∷ js) (state_fact path (values env) ∷ left) rest → Stand rest (slice_set agents t o)
  stand_moved t k js path env body left rest o seated takes =
      stand_step rest agents (slice_set agents t o) t (stand_old rest (takes_kept takes)) (set_others agents t o)
      (λ j f a control e n is m. absurd (seat_gone t k js path env body left seated takes j f a control e n is m))

  reserved_control : (f : Fact) → is_control f ≡ true → is_reserved f.name ≡ true
  reserved_control f control = by (is_reserved f.name) refl
    where
      by : (b : Bool) → is_reserved f.name ≡ b → b ≡ true
      by true e = refl
      by false e = absurd (control_or_user f control e)

  module _ (z : RuleState) (d : Config) (fs : List Tree) where
    -- a running thread is something else, that stands as one fact
    pub moved : (t k : ℕ) (js : List ℕ) (path : List ℕ) (env : Env) (body : Proc) (left : List Fact) (to : Agent) (f : Fact) → SeatedByFact agents s tables t k path env body → Trades s z (k ∷ js) (state_fact path (values env) ∷ left) (f ∷ []) → Keeps c es d fs
        → IsBorn to ≡ true → Member f (stands_as to) → is_control f ≡ true → (f.name ≡ state_name path → ⊥) → (later : Option Tree) (n : Option ℕ) → IsPending es later n → AreProcessTables (slice_set agents t (Some to)) later d fs z (waiting (come tables (t ∷ [])) n)
    moved t k js path env body left to f seated trades keeps born stands control other later n waits =
        let next = slice_set agents t (Some to) in
        let longer = same_longer es fs keeps.entries in
        traded next later d fs z (waiting (come tables (t ∷ [])) n) (k ∷ js) (state_fact path (values env) ∷ left) (f ∷ []) (t ∷ []) trades refl refl refl
        (Comes.stands to control (get-set_same agents t (Some (running path env body)) (Some to) seated.stands.thread) stands (unlike_running t path env body f seated.stands.thread other), tt)
        (once_one f) (reserved_more f [] (reserved_control f control) reserved_none) (stand_moved t k js path env body left trades.rest (Some to) seated trades.takes)
        (born_set agents t (Some to) old.unborn (is_born to born)) keeps.facts longer (pending_stays es fs longer later n waits)
        (old.threads ∙ sym (length_set agents t (Some to))) (old.known ∙ ap (λ (xs : List Tree). length xs) (sym keeps.entries))

    -- it goes on at its first child
    pub goes_first : (t k : ℕ) (js : List ℕ) (path : List ℕ) (env wider : Env) (body p : Proc) (left : List Fact) → SeatedByFact agents s tables t k path env body → Trades s z (k ∷ js) (state_fact path (values env) ∷ left) (at_first path wider ∷ []) → Keeps c es d fs
        → (later : Option Tree) (n : Option ℕ) → IsPending es later n → AreProcessTables (onwards agents t path wider p) later d fs z (waiting (come tables (t ∷ [])) n)
    goes_first t k js path env wider body p left seated trades keeps later n waits =
        moved t k js path env body left (running (first_of path) wider p) (at_first path wider) seated trades keeps refl Member.here refl (λ e. longer_path path 1 (state_name_same (first_of path) path e)) later n waits

    -- or at its second
    pub goes_second : (t k : ℕ) (js : List ℕ) (path : List ℕ) (env wider : Env) (body p : Proc) (left : List Fact) → SeatedByFact agents s tables t k path env body → Trades s z (k ∷ js) (state_fact path (values env) ∷ left) (at_second path wider ∷ []) → Keeps c es d fs
        → (later : Option Tree) (n : Option ℕ) → IsPending es later n → AreProcessTables (aside agents t path wider p) later d fs z (waiting (come tables (t ∷ [])) n)
    goes_second t k js path env wider body p left seated trades keeps later n waits =
        moved t k js path env body left (running (second_of path) wider p) (at_second path wider) seated trades keeps refl Member.here refl (λ e. longer_path path 2 (state_name_same (second_of path) path e)) later n waits

    pub starts_copies : (t k : ℕ) (path : List ℕ) (env : Env) (p : Proc) → SeatedByFact agents s tables t k path env (replicated p) → Trades s z (k ∷ []) (state_fact path (values env) ∷ []) (copies_fact path (values env) ∷ []) → Keeps c es d fs
        → AreProcessTables (slice_set agents t (Some (copying path env p))) pending d fs z (come tables (t ∷ []))
    starts_copies t k path env p seated trades keeps =
        moved t k [] path env (replicated p) [] (copying path env p) (copies_fact path (values env)) seated trades keeps refl Member.here refl (λ e. names_apart (copies_fact path (values env)).name (state_name path) refl e) pending tables.pending old.waits

    pub ends : (t k : ℕ) (path : List ℕ) (env : Env) (body : Proc) → SeatedByFact agents s tables t k path env body → Trades s z (k ∷ []) (state_fact path (values env) ∷ []) [] → Keeps c es d fs → AreProcessTables (slice_set agents t None) pending d fs z tables
    ends t k path env body seated trades keeps =
        let longer = same_longer es fs keeps.entries in
        traded (slice_set agents t None) pending d fs z tables (k ∷ []) (state_fact path (values env) ∷ []) [] [] trades (sym (append-nil tables.facts)) refl refl tt
        once_none reserved_none (stand_moved t k [] path env body [] trades.rest None seated trades.takes)
        (born_set agents t None old.unborn (λ b e. cc)) keeps.facts longer (pending_stays es fs longer pending tables.pending old.waits)
        (old.threads ∙ sym (length_set agents t None)) (old.known ∙ ap (λ (xs : List Tree). length xs) (sym keeps.entries))

    -- it sends, and goes on
    pub sends_first : (t k : ℕ) (js : List ℕ) (path : List ℕ) (env : Env) (body p : Proc) (left : List Fact) (x : Tree) → SeatedByFact agents s tables t k path env body → Trades s z (k ∷ js) (state_fact path (values env) ∷ left) (out_fact x ∷ at_first path env ∷ []) → Gets c es d fs x
        → (later : Option Tree) (n : Option ℕ) → IsPending es later n → AreProcessTables (onwards agents t path env p) later d fs z (waiting (with_known (come tables (tables.known ∷ t ∷ []))) n)
    sends_first t k js path env body p left x seated trades gets later n waits =
        let to = running (first_of path) env p in
        let longer = more_longer es fs x gets.entries in
        traded (onwards agents t path env p) later d fs z (waiting (with_known (come tables (tables.known ∷ t ∷ []))) n) (k ∷ js) (state_fact path (values env) ∷ left) (out_fact x ∷ at_first path env ∷ []) (tables.known ∷ t ∷ []) trades refl refl refl (
          Comes.sent x tables.known (ap (λ i. slice_get fs i) old.known ∙ ap (λ xs. slice_get xs (length es)) gets.entries ∙ get_last es x),
          (Comes.stands to refl (get-set_same agents t (Some (running path env body)) (Some to) seated.stands.thread) Member.here (unlike_running t path env body (at_first path env) seated.stands.thread (λ e. longer_path path 1 (state_name_same (first_of path) path e))), tt),
        )
        (once_two (out_fact x) (at_first path env) (λ f control a b. let h : true ≡ false = sym control ∙ ap is_control (sym a) in cc)) (reserved_more (out_fact x) (at_first path env ∷ []) refl (reserved_more (at_first path env) [] refl reserved_none))
        (stand_moved t k js path env body left trades.rest (Some to) seated trades.takes) (born_set agents t (Some to) old.unborn (is_born to refl)) gets.facts longer (pending_stays es fs longer later n waits)
        (old.threads ∙ sym (length_set agents t (Some to))) (one_more old.known)
      where
        one_more : tables.known ≡ length es → tables.known + 1 ≡ length fs
        one_more e = let h : length fs ≡ length (es ++ x ∷ []) = ap (λ (xs : List Tree). length xs) gets.entries in let k = length-append es (x ∷ []) in omega arith

    -- it becomes two
    pub splits : (t k : ℕ) (path : List ℕ) (env : Env) (body p q : Proc) → SeatedByFact agents s tables t k path env body → Trades s z (k ∷ []) (state_fact path (values env) ∷ []) (at_first path env ∷ at_second path env ∷ []) → Keeps c es d fs
        → AreProcessTables (onwards agents t path env p ++ Some (running (second_of path) env q) ∷ []) pending d fs z (with_thread (come tables (t ∷ tables.threads ∷ [])))
    splits t k path env body p q seated trades keeps =
        let one = running (first_of path) env p in
        let two = running (second_of path) env q in
        let base = slice_set agents t (Some one) in
        let longer = same_longer es fs keeps.entries in
        let size = length_set agents t (Some one) in
        traded (base ++ Some two ∷ []) pending d fs z (with_thread (come tables (t ∷ tables.threads ∷ []))) (k ∷ []) (state_fact path (values env) ∷ []) (at_first path env ∷ at_second path env ∷ []) (t ∷ tables.threads ∷ []) trades refl refl refl (
          Comes.stands one refl (get-append_left base (Some two ∷ []) t (Some one) (get-set_same agents t (Some (running path env body)) (Some one) seated.stands.thread)) Member.here (unlike_running t path env body (at_first path env) seated.stands.thread (λ e. longer_path path 1 (state_name_same (first_of path) path e))),
          (Comes.stands two refl (ap (λ i. slice_get (base ++ Some two ∷ []) i) (old.threads ∙ sym size) ∙ get_last base (Some two)) Member.here (unlike_new tables.threads (at_second path env) old.threads), tt),
        )
        (once_two (at_first path env) (at_second path env) (λ f control a b. two_ends path (state_name_same (first_of path) (second_of path) (ap (λ (y : Fact). y.name) (a ∙ sym b)))))
        (reserved_more (at_first path env) (at_second path env ∷ []) refl (reserved_more (at_second path env) [] refl reserved_none))
        (stand_push trades.rest base two (stand_moved t k [] path env body [] trades.rest (Some one) seated trades.takes))
        (born_push base (Some two) (born_set agents t (Some one) old.unborn (is_born one refl)) (is_born two refl)) keeps.facts longer (pending_stays es fs longer pending tables.pending old.waits)
        (one_more base two size) (old.known ∙ ap (λ (xs : List Tree). length xs) (sym keeps.entries))
      where
        one_more : (base : List (Option Agent)) (two : Agent) → length base ≡ length agents → tables.threads + 1 ≡ length (base ++ Some two ∷ [])
        one_more base two e = let k = length-append base (Some two ∷ []) in let h = old.threads in omega arith

    -- a replication has one copy more
    pub copies : (k : ℕ) (path : List ℕ) (env : Env) (p : Proc) → Trades s z (k ∷ []) (copies_fact path (values env) ∷ []) (at_first path env ∷ []) → Keeps c es d fs
        → AreProcessTables (agents ++ Some (running (first_of path) env p) ∷ []) pending d fs z (with_thread (come tables (tables.threads ∷ [])))
    copies k path env p trades keeps =
        let to = running (first_of path) env p in
        let longer = same_longer es fs keeps.entries in
        traded (agents ++ Some to ∷ []) pending d fs z (with_thread (come tables (tables.threads ∷ []))) (k ∷ []) (copies_fact path (values env) ∷ []) (at_first path env ∷ []) (tables.threads ∷ []) trades refl refl refl
        (Comes.stands to refl (ap (λ i. slice_get (agents ++ Some to ∷ []) i) old.threads ∙ get_last agents (Some to)) Member.here (unlike_new tables.threads (at_first path env) old.threads), tt)
        (once_one (at_first path env)) (reserved_more (at_first path env) [] refl reserved_none)
        (stand_push trades.rest agents to (stand_old trades.rest (takes_kept trades.takes)))
        (born_push agents (Some to) old.unborn (is_born to refl)) keeps.facts longer (pending_stays es fs longer pending tables.pending old.waits)
        (one_more to) (old.known ∙ ap (λ (xs : List Tree). length xs) (sym keeps.entries))
      where
        one_more : (to : Agent) → tables.threads + 1 ≡ length (agents ++ Some to ∷ [])
        one_more to = let k = length-append agents (Some to ∷ []) in let h = old.threads in omega arith

    -- the rules start
    pub starts : (t : ℕ) (body : Proc) → slice_get agents t ≡ Some (Some (unborn body)) → Trades s z [] [] (state_fact [] [] ∷ []) → Keeps c es d fs → AreProcessTables (slice_set agents t (Some (running [] no_env body))) pending d fs z (come tables (t ∷ []))
    starts t body is trades keeps =
        let to = running [] no_env body in
        let longer = same_longer es fs keeps.entries in
        traded (slice_set agents t (Some to)) pending d fs z (come tables (t ∷ [])) [] [] (state_fact [] [] ∷ []) (t ∷ []) trades refl refl refl
        (Comes.stands to refl (get-set_same agents t (Some (unborn body)) (Some to) is) Member.here (unlike_known t (unborn body) (state_fact [] []) is (λ m. elim m [ ])), tt)
        (once_one (state_fact [] [])) (reserved_more (state_fact [] []) [] refl reserved_none)
        (stand_step trades.rest agents (slice_set agents t (Some to)) t (stand_old trades.rest (takes_kept trades.takes)) (set_others agents t (Some to)) (λ j f a control e n i m. absurd (unlike_known t (unborn body) f is (λ o. elim o [ ]) a i m)))
        (born_set agents t (Some to) old.unborn (is_born to refl)) keeps.facts longer (pending_stays es fs longer pending tables.pending old.waits)
        (old.threads ∙ sym (length_set agents t (Some to))) (old.known ∙ ap (λ (xs : List Tree). length xs) (sym keeps.entries))

    -- a message comes under way
    pub sends_message : (t k j : ℕ) (path : List ℕ) (env : Env) (body : Proc) (m n x v : Tree) (p : Proc) (i : ℕ) (o : Fact) → SeatedByFact agents s tables t k path env body
        → Trades s z (k ∷ j ∷ []) (state_fact path (values env) ∷ o ∷ []) (msg_fact (fresh i) x v ∷ waits_fact path (values env ++ fresh i ∷ []) ∷ []) → Keeps c es d fs
        → AreProcessTables (slice_set agents t (Some (awaiting path env m n x v p i))) pending d fs z (come tables (t ∷ t ∷ []))
    sends_message t k j path env body m n x v p i o seated trades keeps =
        let to = awaiting path env m n x v p i in
        let msg = msg_fact (fresh i) x v in
        let waits = waits_fact path (values env ++ fresh i ∷ []) in
        let is = get-set_same agents t (Some (running path env body)) (Some to) seated.stands.thread in
        let longer = same_longer es fs keeps.entries in
        traded (slice_set agents t (Some to)) pending d fs z (come tables (t ∷ t ∷ [])) (k ∷ j ∷ []) (state_fact path (values env) ∷ o ∷ []) (msg ∷ waits ∷ []) (t ∷ t ∷ []) trades refl refl refl (
          Comes.stands to refl is Member.here (unlike_running t path env body msg seated.stands.thread (λ e. names_apart msg.name (state_name path) refl e)),
          (Comes.stands to refl is (Member.later Member.here) (unlike_running t path env body waits seated.stands.thread (λ e. names_apart waits.name (state_name path) refl e)), tt),
        )
        (once_two msg waits (λ f control a b. names_apart msg.name waits.name refl (ap (λ (y : Fact). y.name) (a ∙ sym b))))
        (reserved_more msg (waits ∷ []) refl (reserved_more waits [] refl reserved_none))
        (stand_moved t k (j ∷ []) path env body (o ∷ []) trades.rest (Some to) seated trades.takes)
        (born_set agents t (Some to) old.unborn (is_born to refl)) keeps.facts longer (pending_stays es fs longer pending tables.pending old.waits)
        (old.threads ∙ sym (length_set agents t (Some to))) (old.known ∙ ap (λ (xs : List Tree). length xs) (sym keeps.entries))

    -- its sender goes on
    pub acknowledged : (t k j n : ℕ) (path : List ℕ) (env : Env) (m u : Tree) (p : Proc) → slice_get agents t ≡ Some (Some (received path env m u p n)) → slice_get tables.facts k ≡ Some t → slice_get tables.facts j ≡ Some t
        → Trades s z (k ∷ j ∷ []) (waits_fact path (values env ++ fresh n ∷ []) ∷ ack_fact (fresh n) ∷ []) (at_first path env ∷ []) → Keeps c es d fs
        → AreProcessTables (onwards agents t path env p) pending d fs z (come tables (t ∷ []))
    acknowledged t k j n path env m u p is by_k by_j trades keeps =
        let from = received path env m u p n in
        let to = running (first_of path) env p in
        let longer = same_longer es fs keeps.entries in
        traded (slice_set agents t (Some to)) pending d fs z (come tables (t ∷ [])) (k ∷ j ∷ []) (waits ∷ ack ∷ []) (at_first path env ∷ []) (t ∷ []) trades refl refl refl
        (Comes.stands to refl (get-set_same agents t (Some from) (Some to) is) Member.here (unlike_known t from (at_first path env) is unlike), tt)
        (once_one (at_first path env)) (reserved_more (at_first path env) [] refl reserved_none)
        (stand_step trades.rest agents (slice_set agents t (Some to)) t (stand_old trades.rest (takes_kept trades.takes)) (set_others agents t (Some to))
        (λ i f a control e q at o. absurd (gone i f control e q (subst (λ b. Member f (stands_as b)) (some_agent a from (sym at ∙ is)) o))))
        (born_set agents t (Some to) old.unborn (is_born to refl)) keeps.facts longer (pending_stays es fs longer pending tables.pending old.waits)
        (old.threads ∙ sym (length_set agents t (Some to))) (old.known ∙ ap (λ (xs : List Tree). length xs) (sym keeps.entries))
      where
        waits : Fact
        waits = waits_fact path (values env ++ fresh n ∷ [])

        ack : Fact
        ack = ack_fact (fresh n)

        unlike : Member (at_first path env) (ack ∷ waits ∷ []) → ⊥
        unlike o = elim (of_two o) [
          | first e ↦ names_apart (at_first path env).name (ack_fact (fresh n)).name refl (ap (λ (y : Fact). y.name) e)
          | second e ↦ names_apart (at_first path env).name (waits_fact path (values env ++ fresh n ∷ [])).name refl (ap (λ (y : Fact). y.name) e)
        ]

        gone : (i : ℕ) (f : Fact) → is_control f ≡ true → slice_get trades.rest i ≡ Some (Some f) → slice_get tables.facts i ≡ Some t → Member f (ack ∷ waits ∷ []) → ⊥
        gone i f control e q o = elim (of_two o) [
          | first same ↦ (let number : i ≡ j = old.apart i j t f control (takes_kept trades.takes i f e) (second_there trades.takes ∙ ap (λ y. Some (Some y)) (sym same)) q by_j in
              first_gone (takes_later trades.takes) refl f (ap (λ b. slice_get trades.rest b) (sym number) ∙ e))
          | second same ↦ (let number : i ≡ k = old.apart i k t f control (takes_kept trades.takes i f e) (first_there trades.takes ∙ ap (λ y. Some (Some y)) (sym same)) q by_k in
              first_gone trades.takes refl f (ap (λ b. slice_get trades.rest b) (sym number) ∙ e))
        ]

    -- the sender of a message and a thread meet
    pub meets : (a t k j n : ℕ) (at path : List ℕ) (other env wider : Env) (m u x v : Tree) (p q body : Proc) → slice_get agents a ≡ Some (Some (awaiting at other m u x v p n)) → slice_get tables.facts j ≡ Some a → SeatedByFact agents s tables t k path env body
        → Trades s z (k ∷ j ∷ []) (state_fact path (values env) ∷ msg_fact (fresh n) x v ∷ []) (ack_fact (fresh n) ∷ at_first path wider ∷ []) → Keeps c es d fs
        → AreProcessTables (onwards (slice_set agents a (Some (received at other m u p n))) t path wider q) pending d fs z (come tables (a ∷ t ∷ []))
    meets a t k j n at path other env wider m u x v p q body is by_j seated trades keeps =
        let longer = same_longer es fs keeps.entries in
        traded next pending d fs z (come tables (a ∷ t ∷ [])) (k ∷ j ∷ []) (state_fact path (values env) ∷ msg ∷ []) (ack ∷ at_first path wider ∷ []) (a ∷ t ∷ []) trades refl refl refl (
          Comes.stands to refl (set_others base t (Some run) a to different (get-set_same agents a (Some from) (Some to) is)) Member.here (unlike_known a from ack is unlike),
          (
            Comes.stands run refl (get-set_same base t (Some (running path env body)) (Some run) (set_others agents a (Some to) t (running path env body) (λ e. different (sym e)) seated.stands.thread)) Member.here
                (unlike_running t path env body (at_first path wider) seated.stands.thread (λ e. longer_path path 1 (state_name_same (first_of path) path e))),
            tt,
          ),
        )
        (once_two ack (at_first path wider) (λ f control e h. names_apart ack.name (at_first path wider).name refl (ap (λ (y : Fact). y.name) (e ∙ sym h))))
        (reserved_more ack (at_first path wider ∷ []) refl (reserved_more (at_first path wider) [] refl reserved_none))
        (stand_step trades.rest base next t stand_base (set_others base t (Some run)) (λ i f b control e o h w. absurd (seat_gone t k (j ∷ []) path env body (msg ∷ []) seated trades.takes i f b control e o (same_there b h) w)))
        (born_set base t (Some run) (born_set agents a (Some to) old.unborn (is_born to refl)) (is_born run refl)) keeps.facts longer (pending_stays es fs longer pending tables.pending old.waits)
        (old.threads ∙ sym (length_set agents a (Some to)) ∙ sym (length_set base t (Some run))) (old.known ∙ ap (λ (xs : List Tree). length xs) (sym keeps.entries))
      where
        from : Agent
        from = awaiting at other m u x v p n

        to : Agent
        to = received at other m u p n

        run : Agent
        run = running (first_of path) wider q

        base : List (Option Agent)
        base = slice_set agents a (Some to)

        next : List (Option Agent)
        next = slice_set base t (Some run)

        msg : Fact
        msg = msg_fact (fresh n) x v

        ack : Fact
        ack = ack_fact (fresh n)

        waits : Fact
        waits = waits_fact at (values other ++ fresh n ∷ [])

        different : a ≡ t → ⊥
        different e = let h : awaiting at other m u x v p n ≡ running path env body = some_agent _ _ (sym is ∙ ap (λ i. slice_get agents i) e ∙ seated.stands.thread) in cc

        unlike : Member ack (msg ∷ waits ∷ []) → ⊥
        unlike o = elim (of_two o) [
          | first e ↦ names_apart (ack_fact (fresh n)).name (msg_fact (fresh n) x v).name refl (ap (λ (y : Fact). y.name) e)
          | second e ↦ names_apart (ack_fact (fresh n)).name (waits_fact at (values other ++ fresh n ∷ [])).name refl (ap (λ (y : Fact). y.name) e)
        ]

        -- the sender waits on
        waiting_on : (i : ℕ) (f : Fact) → is_control f ≡ true → slice_get trades.rest i ≡ Some (Some f) → slice_get tables.facts i ≡ Some a → Member f (msg ∷ waits ∷ []) → Member f (ack ∷ waits ∷ [])
        waiting_on i f control e o w = elim (of_two w) [
          | first same ↦ absurd (let number : i ≡ j = old.apart i j a f control (takes_kept trades.takes i f e) (second_there trades.takes ∙ ap (λ y. Some (Some y)) (sym same)) o by_j in
              first_gone (takes_later trades.takes) refl f (ap (λ b. slice_get trades.rest b) (sym number) ∙ e))
          | second same ↦ subst (λ y. Member y (ack ∷ waits ∷ [])) (sym same) (Member.later Member.here)
        ]

        stand_base : Stand trades.rest base
        stand_base = stand_step trades.rest agents base a (stand_old trades.rest (takes_kept trades.takes)) (set_others agents a (Some to))
            (λ i f b control e o h w. (to, get-set_same agents a (Some from) (Some to) is, waiting_on i f control e o (subst (λ y. Member f (stands_as y)) (some_agent b from (sym h ∙ is)) w)))

        same_there : (b : Agent) → slice_get base t ≡ Some (Some b) → slice_get agents t ≡ Some (Some b)
        same_there b h = sym (get-set_other agents a t (Some to) different) ∙ h
