-- What the desk keeps while threads go on, come and end, and facts come.
use Rattle.std.proofs.Common.{◌≡◌, ◌<◌, ◌≤◌, ℕ, ◌+◌, suc, zero, Bool, true, false, List, [], ◌∷◌, ◌++◌, Option, Some, None, length, slice_get, slice_set, ◌⊎◌, inl, inr, refl, sym, ap, subst, ◌∙◌, arith}
use Rattle.std.proofs.lemmas.Bool.{false≢true, cases_lt}
use Rattle.sap_process.specs.Proc.{Proc, replicated}
use Rattle.sap_runs.specs.declared.rule_step.RStep.{RStep}
use Rattle.sap_lines.specs.declared.place.Place.{Place}
use Rattle.sap_translate.specs.relation.Agents.{Agent, running, copying}
use Rattle.sap_translate.specs.relation.Answers.{goes_on, goes_aside}
use Rattle.sap_translate.specs.relation.Envs.{Env}
use Rattle.sap_rule_lines.specs.Least.{is_among, IsNext}
use Rattle.sap_forward.specs.Tables.{RuleTables}
use Rattle.sap_forward.specs.Written.{Seated, SeatedCopying, moved, with_thread_fact, with_facts, with_process_facts, gives, numbers_from}
use Rattle.sap_forward.specs.code.Desk.{Keeps, SitsAt}
use Rattle.sap_forward.specs.code.Steps.{IsAt, Goes, goes, joins, starts}
use Rattle.sap_forward.specs.declared.desk.Desk.{Desk}
use Rattle.sap_forward.specs.declared.seats.Seat.{Seat}
use Rattle.sap_forward.proofs.Lists.{some_same, lists_last}
use Rattle.sap_forward.proofs.Seated.{seat_kept, seats_set, seats_end, seats_join, first_proc, second_proc, StandsAt, first_stands, second_stands}

got_of : {A : Type 0} (xs : List A) (k : ℕ) → k < length xs → (x : A) × (slice_get xs k ≡ Some x)
got_of [] k lt = absurd (omega arith)
got_of (x ∷ xs) zero lt = (x, refl)
got_of (x ∷ xs) (suc k) lt = got_of xs k (omega arith)

-- there is one least name
pub one_next : (drawn names : List ℕ) (bound n m : ℕ) → ((k : ℕ) → is_among names k ≡ is_among drawn k) → IsNext drawn bound n → IsNext names bound m → n ≡ m
one_next drawn names bound n m same h i = by (cases_lt n m) (cases_lt m n) where
  by : (n < m) ⊎ (m ≤ n) → (m < n) ⊎ (n ≤ m) → n ≡ m
  by (inl lt) y = absurd (false≢true (sym h.free ∙ sym (same n) ∙ i.least n h.from lt))
  by (inr le) (inl lt) = absurd (false≢true (sym i.free ∙ same m ∙ h.least m i.from lt))
  by (inr le) (inr ge) = omega arith

-- the seat of a thread, its place, and what they are
pub record HasSeat (d : Desk) (t k : ℕ) (path : List ℕ) (body : Proc) (copies : Bool) : Type 0 where
  pub seat : Seat
  pub place : Place
  pub at : IsAt d t seat place
  pub sits : SitsAt d.places path body k seat
  pub copying : seat.copying ≡ copies

pub one_seat : (d : Desk) (t : ℕ) (s u : Seat) (x y : Place) → IsAt d t s x → IsAt d t u y → (s ≡ u) × (x ≡ y)
one_seat d t s u x y h i =
    let seats : s ≡ u = some_same (some_same (sym h.0 ∙ i.0)) in
    (seats, some_same (sym h.1 ∙ ap (λ (z : Seat). slice_get d.places z.place) seats ∙ i.1))

-- what is said of the seat that was read is so of each
pub goes_from : (d e : Desk) (t digit come : ℕ) (child : Place → ℕ) (before after : List RStep) (ls : List ℕ → ℕ → ℕ → List RStep) (u : Seat) (y : Place) → IsAt d t u y
    → ((s : Seat) → slice_get d.seats t ≡ Some (Some s) → e ≡ goes d t s digit (child y) come) → after ≡ before ++ ls u.path u.number d.count → Goes d e t digit child come before after ls
goes_from d e t digit come child before after ls u y at go put s x is =
    let same = one_seat d t u s y x at is in
    (go s is.0 ∙ ap (λ (z : Place). goes d t s digit (child z) come) same.1, put ∙ ap (λ (z : Seat). before ++ ls z.path z.number d.count) same.0)

-- and one more line behind
pub goes_then : (d e : Desk) (t digit come : ℕ) (child : Place → ℕ) (before middle after : List RStep) (ls : List ℕ → ℕ → ℕ → List RStep) (more : ℕ → RStep)
    → Goes d e t digit child come before middle ls → after ≡ middle ++ more d.count ∷ [] → Goes d e t digit child come before after (λ path k n. ls path k n ++ more n ∷ [])
goes_then d e t digit come child before middle after ls more goes put s x is =
    let m = goes s x is in (m.0, lists_last before middle after (ls s.path s.number d.count) (more d.count) m.1 put)

module _ (start : Proc) (drawn : List ℕ) (agents : List (Option Agent)) (tables : RuleTables) (d : Desk) (keeps : Keeps start drawn agents tables d) where
  -- the seat of a thread that runs
  pub has_seat : (t k : ℕ) (path : List ℕ) (env : Env) (body : Proc) → Seated agents tables t k path env body → HasSeat d t k path body false
  has_seat t k path env body seated =
      let kept = seat_kept d.places agents tables.threads d.seats t k (Some (running path env body)) keeps.seats seated.thread seated.number in
      let sits = kept.2.2 in
      let place = got_of d.places kept.2.0.place sits.below in
      record { seat = kept.2.0; place = place.0; at = (kept.1 ∙ ap Some kept.2.1, place.1); sits = sits; copying = kept.2.3 }

  -- that of one that gives copies
  pub has_copying : (t k : ℕ) (path : List ℕ) (env : Env) (body : Proc) → SeatedCopying agents tables t k path env body → HasSeat d t k path (replicated body) true
  has_copying t k path env body seated =
      let kept = seat_kept d.places agents tables.threads d.seats t k (Some (copying path env body)) keeps.seats seated.thread seated.number in
      let sits = kept.2.2 in
      let place = got_of d.places kept.2.0.place sits.below in
      record { seat = kept.2.0; place = place.0; at = (kept.1 ∙ ap Some kept.2.1, place.1); sits = sits; copying = kept.2.3 }

  -- a thread goes on
  pub go_kept : (t k digit place come : ℕ) (path : List ℕ) (env : Env) (body p : Proc) (s : Seat) → SitsAt d.places path body k s → StandsAt d.places place p
      → Keeps start drawn (slice_set agents t (Some (running (path ++ digit ∷ []) env p))) (moved tables t come) (goes d t s digit place come)
  go_kept t k digit place come path env body p s sits stands = record {
    root = keeps.root;
    places = keeps.places;
    seats = seats_set d.places agents tables.threads d.seats t (tables.count + come) (Some (running (path ++ digit ∷ []) env p)) _ keeps.seats
        (_, refl, record { below = stands.0; proc = stands.1; way = ap (λ ds. ds ++ digit ∷ []) sits.way; number = ap (λ n. n + come) keeps.count }, refl);
    facts = keeps.facts;
    count = ap (λ n. n + come + 1) keeps.count;
    next = keeps.next;
    names = keeps.names;
  }

  -- one more comes
  pub join_kept : (place : ℕ) (path : List ℕ) (env : Env) (p : Proc) → StandsAt d.places place p
      → Keeps start drawn (agents ++ Some (running path env p) ∷ []) (with_thread_fact tables) (joins d path place)
  join_kept place path env p stands = record {
    root = keeps.root;
    places = keeps.places;
    seats = seats_join d.places agents tables.threads d.seats tables.count (Some (running path env p)) _ keeps.seats
        (_, refl, record { below = stands.0; proc = stands.1; way = refl; number = keeps.count }, refl);
    facts = keeps.facts;
    count = ap (λ n. n + 1) keeps.count;
    next = keeps.next;
    names = keeps.names;
  }

  -- a replication starts
  pub starts_kept : (t k : ℕ) (path : List ℕ) (env : Env) (p : Proc) (s : Seat) → SitsAt d.places path (replicated p) k s
      → Keeps start drawn (slice_set agents t (Some (copying path env p))) (moved tables t 0) (starts d t s)
  starts_kept t k path env p s sits = record {
    root = keeps.root;
    places = keeps.places;
    seats = seats_set d.places agents tables.threads d.seats t (tables.count + 0) (Some (copying path env p)) _ keeps.seats
        (_, refl, record { below = sits.below; proc = sits.proc; way = sits.way; number = let e = keeps.count in omega arith }, refl);
    facts = keeps.facts;
    count = let e = keeps.count in omega arith;
    next = keeps.next;
    names = keeps.names;
  }

  -- one ends
  pub end_kept : (t : ℕ) → Keeps start drawn (slice_set agents t None) tables (record d { seats = slice_set d.seats t None })
  end_kept t = record {
    root = keeps.root;
    places = keeps.places;
    seats = seats_end d.places agents tables.threads d.seats t keeps.seats;
    facts = keeps.facts;
    count = keeps.count;
    next = keeps.next;
    names = keeps.names;
  }

  -- facts come
  pub facts_kept : (come : ℕ) → Keeps start drawn agents (with_facts tables come) (record d { count = d.count + come })
  facts_kept come = record {
    root = keeps.root;
    places = keeps.places;
    seats = keeps.seats;
    facts = keeps.facts;
    count = ap (λ n. n + come) keeps.count;
    next = keeps.next;
    names = keeps.names;
  }

  -- facts of the process come
  pub pile_kept : (come : ℕ) → Keeps start drawn agents (with_process_facts tables come) (record d { facts = d.facts ++ numbers_from d.count come; count = d.count + come })
  pile_kept come = record {
    root = keeps.root;
    places = keeps.places;
    seats = keeps.seats;
    facts = let e = keeps.facts in let f = keeps.count in λ i. e i ++ numbers_from (f i) come;
    count = ap (λ n. n + come) keeps.count;
    next = keeps.next;
    names = keeps.names;
  }

  -- a name is given
  pub gives_kept : (n m : ℕ) → n ≡ m → Keeps start drawn agents (gives tables n) (record d { next = m + 1 })
  gives_kept n m same = record {
    root = keeps.root;
    places = keeps.places;
    seats = keeps.seats;
    facts = keeps.facts;
    count = keeps.count;
    next = ap (λ k. k + 1) (sym same);
    names = keeps.names;
  }

  -- the name that is given is the next one
  pub given_next : (n m : ℕ) → IsNext drawn tables.next n → IsNext d.names d.next m → n ≡ m
  given_next n m h i = one_next drawn d.names tables.next n m keeps.names h (subst (λ (b : ℕ). IsNext d.names b m) keeps.next i)

  -- a thread that stands before something goes on at its first child
  pub moves_on : (t k come : ℕ) (path : List ℕ) (env wider : Env) (body p : Proc) (e : Desk) (before after : List RStep) (ls : List ℕ → ℕ → ℕ → List RStep)
      → Seated agents tables t k path env body → first_proc body ≡ Some p → Goes d e t 1 (λ x. x.first) come before after ls
      → (after ≡ before ++ ls path k tables.count) × Keeps start drawn (goes_on agents t path wider p) (moved tables t come) e
  moves_on t k come path env wider body p e before after ls seated child moves =
      let h = has_seat t k path env body seated in
      let m = moves h.seat h.place h.at in
      let stands = first_stands d.places keeps.places.places h.seat.place h.place h.at.1 body h.sits.proc p child in
      let a = h.sits.way in let b = h.sits.number in let c = keeps.count in
      (m.1 ∙ (λ i. before ++ ls (a i) (b i) (c i)), subst (Keeps start drawn (goes_on agents t path wider p) (moved tables t come)) (sym m.0) (go_kept t k 1 h.place.first come path wider body p h.seat h.sits stands))

  -- and at its second
  pub moves_aside : (t k come : ℕ) (path : List ℕ) (env wider : Env) (body p : Proc) (e : Desk) (before after : List RStep) (ls : List ℕ → ℕ → ℕ → List RStep)
      → Seated agents tables t k path env body → second_proc body ≡ Some p → Goes d e t 2 (λ x. x.second) come before after ls
      → (after ≡ before ++ ls path k tables.count) × Keeps start drawn (goes_aside agents t path wider p) (moved tables t come) e
  moves_aside t k come path env wider body p e before after ls seated child moves =
      let h = has_seat t k path env body seated in
      let m = moves h.seat h.place h.at in
      let stands = second_stands d.places keeps.places.places h.seat.place h.place h.at.1 body h.sits.proc p child in
      let a = h.sits.way in let b = h.sits.number in let c = keeps.count in
      (m.1 ∙ (λ i. before ++ ls (a i) (b i) (c i)), subst (Keeps start drawn (goes_aside agents t path wider p) (moved tables t come)) (sym m.0) (go_kept t k 2 h.place.second come path wider body p h.seat h.sits stands))
