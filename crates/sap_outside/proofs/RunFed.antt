-- A run is read piece by piece.
use Rattle.std.proofs.Common.{◌≡◌, ◌≢◌, ◌<◌, ◌≤◌, ◌+◌, ℕ, suc, min, List, [], ◌∷◌, ◌++◌, length, slice_get, Option, Some, None, IsSomeAnd, refl, sym, ap, subst, ◌∙◌, inl, inr, append_assoc, arith}
use Rattle.std.specs.Prelude.{All}
use Rattle.std.specs.List.{concat}
use Rattle.std.proofs.lemmas.List.{append-nil, length-append}
use Rattle.std.proofs.lemmas.List.Elements.{All-nil, All-cons, All-push, All-head, All-tail}
use Rattle.std.specs.FinMap as map
use Rattle.std.specs.Io.KnownBytes.{Consumes}
use Rattle.sap_run_texts.specs.RunReading.{Reading, StandsFor}
use Rattle.sap_outside.specs.Outside.{Files, Rose, IsNextPart, IsWholeFile, piece_bytes}
use Rattle.sap_outside.specs.Requests.{Request, Requested, for_run}
use Rattle.sap_outside.specs.Requests as request
use Rattle.sap_outside.specs.RunPieces.{most_run_bytes, IsReadUp, IsJoined, held_length, may_come, ArePieces, WasRead, WasGivenUp}
use Rattle.sap_outside.specs.code.RunFed.{IsTallyOf, IsFed, IsPieceFed, nexts, AreWithin, none_yet, all_but, HaveCome, ArePiecesFed, IsReadUpWhereTold, IsRunFed, may_come_of, WasAsked}
use Rattle.sap_outside.proofs.Requests.{requested_none, requested_both, one_request_more, replicate_one_more}

-- the first byte stays the first
pub first_kept : (z piece : List ℕ) (byte : ℕ) → Some byte ≡ slice_get z 0 → Some byte ≡ slice_get (z ++ piece) 0
first_kept [] piece byte e = cc
first_kept (x ∷ z) piece byte e = e

-- and behind nothing it is that of the piece
pub first_new : (z piece : List ℕ) → None ≡ slice_get z 0 → slice_get piece 0 ≡ slice_get (z ++ piece) 0
first_new [] piece e = refl
first_new (x ∷ z) piece e = cc

-- a reader was fed nothing, and then one piece behind another
fed_nothing : (r : Reading) → IsFed r r []
fed_nothing r = record { kinds = refl; stands = λ before h. subst (λ (y : List ℕ). StandsFor r y) (sym (append-nil before)) h }

fed_both : (old mid new : Reading) (z piece : List ℕ) → IsFed old mid z → IsFed mid new piece → IsFed old new (z ++ piece)
fed_both old mid new z piece first next = record {
  kinds = next.kinds ∙ first.kinds;
  stands = λ before h. subst (λ (y : List ℕ). StandsFor new y) (append_assoc before z piece) (next.stands (before ++ z) (first.stands before h));
}

-- what a file lost, and then one piece more
lost_nothing : (file : Option (List ℕ)) → Consumes file file []
lost_nothing None = tt
lost_nothing (Some xs) = refl

lost_more : (file rest left : Option (List ℕ)) (z piece : List ℕ) → Consumes file rest z → IsNextPart rest left piece → Consumes file left (z ++ piece)
lost_more None rest left z piece lost next = tt
lost_more (Some xs) None left z piece lost next = absurd lost
lost_more (Some xs) (Some ys) None z piece lost next = absurd next
lost_more (Some xs) (Some ys) (Some zs) z piece lost next = lost ∙ ap (λ y. z ++ y) next.0 ∙ sym (append_assoc z piece zs)

-- a file that lost all of it, as an empty piece shows
nil_left : (ys zs piece : List ℕ) → ys ≡ piece ++ zs → ys ≡ [] → zs ≡ []
nil_left ys zs [] e none = sym e ∙ none
nil_left ys zs (x ∷ piece) e none = cc

no_bytes : (piece : List ℕ) → length piece ≡ 0 → piece ≡ []
no_bytes [] e = refl
no_bytes (x ∷ piece) e = absurd (omega (arith, e))

up_to_end : (file rest left : Option (List ℕ)) (z piece : List ℕ) → Consumes file rest z → IsNextPart rest left piece → length piece ≡ 0
    → length (z ++ piece) ≤ most_run_bytes + piece_bytes → IsReadUpWhereTold file (z ++ piece)
up_to_end None rest left z piece lost next none small = tt
up_to_end (Some xs) None left z piece lost next none small = absurd lost
up_to_end (Some xs) (Some ys) None z piece lost next none small = absurd next
up_to_end (Some xs) (Some ys) (Some zs) z piece lost next none small = record {
  left = zs;
  part = lost_more (Some xs) (Some ys) (Some zs) z piece lost next;
  whole = λ short. nil_left ys zs piece next.0 (next.1 (no_bytes piece none));
  short = small;
}

-- and one that shows to be too long
up_to_many : (file rest : Option (List ℕ)) (z : List ℕ) → Consumes file rest z → most_run_bytes < length z
    → length z ≤ most_run_bytes + piece_bytes → IsReadUpWhereTold file z
up_to_many None rest z lost many small = tt
up_to_many (Some xs) None z lost many small = absurd lost
up_to_many (Some xs) (Some ys) z lost many small = record {
  left = ys;
  part = lost;
  whole = λ short. absurd (omega (arith, many, short));
  short = small;
}

-- pieces and one more
pub concat_more : (ps : List (List ℕ)) (p : List ℕ) → concat (ps ++ p ∷ []) ≡ concat ps ++ p
concat_more [] p = append-nil p
concat_more (q ∷ ps) p = ap (λ (y : List ℕ). q ++ y) (concat_more ps p) ∙ sym (append_assoc q (concat ps) p)

abbrev pub IsSmall : List ℕ → Type 0
IsSmall piece = length piece ≤ piece_bytes

abbrev pub IsSome : List ℕ → Type 0
IsSome piece = piece ≢ []

-- there are no more pieces than bytes, where each has some
some_length : (p : List ℕ) → p ≢ [] → 1 ≤ length p
some_length [] h = absurd (h refl)
some_length (x ∷ p) h = omega arith

pub no_more_pieces : (ps : List (List ℕ)) → All IsSome ps → length ps ≤ length (concat ps)
no_more_pieces [] h = omega arith
no_more_pieces (p ∷ ps) h =
    let here = some_length p (All-head IsSome p ps h) in
    let there = no_more_pieces ps (All-tail IsSome p ps h) in
    let sum = length-append p (concat ps) in
    omega (arith, here, there, sum)

-- none came yet
none_came : (asked : Option (List Request)) → HaveCome [] asked asked
none_came asked = record {
  came = [];
  whole = refl;
  small = All-nil IsSmall;
  some = All-nil IsSome;
  within = none_yet;
  asked = requested_none asked;
}

module _ (z : List ℕ) (before mid after : Option (List Request)) (have : HaveCome z before mid) (piece : List ℕ)
    (once : Requested (request.next piece_bytes ∷ []) mid after) where
  asked_more : Requested (nexts (length (have.came ++ piece ∷ []))) before after
  asked_more =
      subst (λ (made : List Request). Requested made before after) (sym (one_request_more (request.next piece_bytes) have.came piece))
      (requested_both (nexts (length have.came)) (request.next piece_bytes ∷ []) before mid after have.asked once)

  whole_more : z ++ piece ≡ concat (have.came ++ piece ∷ [])
  whole_more = ap (λ (y : List ℕ). y ++ piece) have.whole ∙ sym (concat_more have.came piece)

  few_came : length z ≤ most_run_bytes → length (concat have.came) ≤ most_run_bytes
  few_came few = subst (λ (y : List ℕ). length y ≤ most_run_bytes) have.whole few

  -- one more came, which has some bytes
  one_came : length piece ≤ piece_bytes → piece ≢ [] → length z ≤ most_run_bytes → HaveCome (z ++ piece) before after
  one_came short some few = record {
    came = have.came ++ piece ∷ [];
    whole = whole_more;
    small = All-push IsSmall have.came piece have.small short;
    some = All-push IsSome have.came piece have.some some;
    within = all_but have.came piece (few_came few);
    asked = asked_more;
  }

  -- the last came, which is empty
  last_came : length piece ≤ piece_bytes → piece ≡ [] → length z ≤ most_run_bytes → ArePieces (have.came ++ piece ∷ [])
  last_came short none few = record {
    before = have.came;
    last = piece;
    parted = refl;
    small = All-push IsSmall have.came piece have.small short;
    some = have.some;
    within = few_came few;
    ends = inl none;
  }

  -- there are no more pieces than bytes, and one more was asked for
  asked_at_most : (n : ℕ) → length z ≤ n → WasAsked (n + 1) before after
  asked_at_most n few = record {
    times = suc (length have.came);
    few =
        let below = no_more_pieces have.came have.some in
        let same : length z ≡ length (concat have.came) = ap (λ (y : List ℕ). length y) have.whole in
        omega (arith, below, same, few);
    asked =
        subst (λ (made : List Request). Requested made before after) (sym (replicate_one_more (request.next piece_bytes) (length have.came)))
        (requested_both (nexts (length have.came)) (request.next piece_bytes ∷ []) before mid after have.asked once);
  }

-- all but the last of some
All-front : (P : List ℕ → Type 0) (ps : List (List ℕ)) (p : List ℕ) → All P (ps ++ p ∷ []) → All P ps
All-front P [] p h = All-nil P
All-front P (q ∷ ps) p h = All-cons P q ps (All-head P q (ps ++ p ∷ []) h) (All-front P ps p (All-tail P q (ps ++ p ∷ []) h))

-- with those that came the bytes are too many
too_many_came : (came : List (List ℕ)) → AreWithin came → All IsSmall came → All IsSome came → most_run_bytes < length (concat came) → ArePieces came
too_many_came _ none_yet small some many = let none : most_run_bytes < 0 = many in absurd (omega (arith, none))
too_many_came _ (all_but before last few) small some many = record {
  before = before;
  last = last;
  parted = refl;
  small = small;
  some = All-front IsSome before last some;
  within = few;
  ends = inr many;
}

-- no piece was read yet
pub pieces_none : (file : Option (List ℕ)) (r : Reading) (given : ℕ) (first : Option ℕ) (asked : Option (List Request)) → IsTallyOf [] given first
    → ArePiecesFed file file r r given first asked asked
pieces_none file r given first asked tally = record {
  z = [];
  small = omega (arith, tally.0);
  part = lost_nothing file;
  fed = fed_nothing r;
  tally = tally;
  come = none_came asked;
}

module _ (file rest : Option (List ℕ)) (old mid : Reading) (given : ℕ) (first : Option ℕ) (asked_before asked_mid : Option (List Request))
    (all : ArePiecesFed file rest old mid given first asked_before asked_mid) where
  -- how many bytes there are behind one more piece
  given_more : (piece : List ℕ) (given_after : ℕ) (first_after : Option ℕ) → IsTallyOf (all.z ++ piece) given_after first_after → given_after ≡ given + length piece
  given_more piece given_after first_after tally =
      let sum = length-append all.z piece in
      omega (arith, tally.0, all.tally.0, sum)

  -- no more than a run may have
  all_few : given ≤ most_run_bytes → length all.z ≤ most_run_bytes
  all_few short = omega (arith, short, all.tally.0)

  -- one more piece was asked for, or the last, in vain
  pub pieces_asked : (asked_after : Option (List Request)) (n : ℕ) → given ≤ n → Requested (request.next piece_bytes ∷ []) asked_mid asked_after → WasAsked (n + 1) asked_before asked_after
  pieces_asked asked_after n few once = asked_at_most all.z asked_before asked_mid asked_after all.come [] once n (omega (arith, few, all.tally.0))

  module _ (left : Option (List ℕ)) (new : Reading) (given_after : ℕ) (first_after : Option ℕ) (asked_after : Option (List Request))
      (more : IsPieceFed rest left mid new given first given_after first_after) (once : Requested (request.next piece_bytes ∷ []) asked_mid asked_after) where
    sum : given_after ≡ given + length more.piece
    sum = given_more more.piece given_after first_after (more.tally all.z all.tally)

    has_some : (given_after ≡ given → ⊥) → more.piece ≢ []
    has_some other none =
        let no_length : length more.piece ≡ 0 = ap (λ (y : List ℕ). length y) none in
        other (omega (arith, sum, no_length))

    -- one more piece was read, which has some bytes
    pub pieces_more : given ≤ most_run_bytes → (given_after ≡ given → ⊥) → ArePiecesFed file left old new given_after first_after asked_before asked_after
    pieces_more short other = record {
      z = all.z ++ more.piece;
      small = omega (arith, sum, short, more.small);
      part = lost_more file rest left all.z more.piece all.part more.part;
      fed = fed_both old mid new all.z more.piece all.fed more.fed;
      tally = more.tally all.z all.tally;
      come = one_came all.z asked_before asked_mid asked_after all.come more.piece once more.small (has_some other) (all_few short);
    }

    -- it was empty
    pub pieces_end : given ≤ most_run_bytes → given_after ≡ given → IsRunFed file old new given_after first_after asked_before asked_after
    pieces_end short same =
        let tally = more.tally all.z all.tally in
        let none : length more.piece ≡ 0 = omega (arith, sum, same) in
        record {
          z = all.z ++ more.piece;
          small = omega (arith, sum, short, more.small);
          part = up_to_end file rest left all.z more.piece all.part more.part none (omega (arith, sum, short, more.small, tally.0));
          fed = fed_both old mid new all.z more.piece all.fed more.fed;
          tally = tally;
          pieces = all.come.came ++ more.piece ∷ [];
          are = last_came all.z asked_before asked_mid asked_after all.come more.piece once more.small (no_bytes more.piece none) (all_few short);
          whole = whole_more all.z asked_before asked_mid asked_after all.come more.piece once;
          asked = asked_more all.z asked_before asked_mid asked_after all.come more.piece once;
        }

  -- too many bytes were read
  pub pieces_many : most_run_bytes < given → IsRunFed file old mid given first asked_before asked_mid
  pieces_many many = record {
    z = all.z;
    small = all.small;
    part = up_to_many file rest all.z all.part (omega (arith, many, all.tally.0)) (omega (arith, all.small, all.tally.0));
    fed = all.fed;
    tally = all.tally;
    pieces = all.come.came;
    are =
        let same : length all.z ≡ length (concat all.come.came) = ap (λ (y : List ℕ). length y) all.come.whole in
        too_many_came all.come.came all.come.within all.come.small all.come.some (omega (arith, many, all.tally.0, same));
    whole = all.come.whole;
    asked = all.come.asked;
  }

-- what came of a file is no more than may come of it
first_length : (xs z ys : List ℕ) → xs ≡ z ++ ys → length z ≤ length xs
first_length xs z ys e =
    let same : length xs ≡ length (z ++ ys) = ap (λ y. length y) e in
    let sum = length-append z ys in
    omega (arith, same, sum)

came : (file rest : Option (List ℕ)) (z : List ℕ) → Consumes file rest z → length z ≤ most_run_bytes → length z ≤ may_come_of file
came None rest z lost few = few
came (Some xs) None z lost few = absurd lost
came (Some xs) (Some ys) z lost few = let below = first_length xs z ys lost in omega (arith, few, below)

pub pieces_came : (file rest : Option (List ℕ)) (old mid : Reading) (given : ℕ) (first : Option ℕ) (asked_before asked_after : Option (List Request))
    → ArePiecesFed file rest old mid given first asked_before asked_after → given ≤ most_run_bytes → given ≤ may_come_of file
pieces_came file rest old mid given first asked_before asked_after all few =
    let bound = came file rest all.z all.part (omega (arith, few, all.tally.0)) in
    omega (arith, bound, all.tally.0)

-- nor are the bytes before the last piece of a run
before_last : (file : Option (List ℕ)) (z before last : List ℕ) → IsReadUpWhereTold file z → z ≡ before ++ last → length before ≤ most_run_bytes → length before ≤ may_come_of file
before_last None z before last read e few = few
before_last (Some xs) z before last read e few =
    let whole = first_length xs z read.left read.part in
    let part = first_length z before last e in
    omega (arith, few, whole, part)

-- so a run that was read was asked for as often as it may be
pub run_asked : (file : Option (List ℕ)) (old new : Reading) (given : ℕ) (first : Option ℕ) (asked_before asked_after : Option (List Request))
    → IsRunFed file old new given first asked_before asked_after → WasAsked (may_come_of file + 1) asked_before asked_after
run_asked file old new given first asked_before asked_after run =
    let are = run.are in
    let parts : run.z ≡ concat are.before ++ are.last = run.whole ∙ ap concat are.parted ∙ concat_more are.before are.last in
    record {
      times = length run.pieces;
      few =
          let below = no_more_pieces are.before are.some in
          let bound = before_last file run.z (concat are.before) are.last run.part parts are.within in
          let count : length run.pieces ≡ length (are.before ++ are.last ∷ []) = ap (λ (ps : List (List ℕ)). length ps) are.parted in
          let more = length-append are.before (are.last ∷ []) in
          omega (arith, below, bound, count, more);
      asked = run.asked;
    }

-- bytes that were read of a file that was opened whole are those of a run of its name
pub joined : (holds : Option Files) (name : List ℕ) (rest : Option (List ℕ)) (z : List ℕ) → IsWholeFile holds name rest → IsReadUpWhereTold rest z
    → length z ≤ most_run_bytes + piece_bytes → IsJoined holds name z
joined None name rest z whole read small = small
joined (Some files) name rest z whole read small = at (map.get files name) whole where
  at : (o : Option (List ℕ)) → IsSomeAnd o (λ bytes. rest ≡ Some bytes) → IsSomeAnd o (λ file. IsReadUp file z)
  at None h = absurd h
  at (Some bytes) h = subst (λ (r : Option (List ℕ)). IsReadUpWhereTold r z) h read

-- a count of the open file's name that rose since a later time rose since an earlier one
pub cause_since : (open_then open_now : Option (List ℕ)) (before mid after : List ℕ → ℕ) → open_now ≡ open_then → ((n : List ℕ) → before n ≤ mid n)
    → IsSomeAnd open_now (λ n. Rose (mid n) (after n)) → IsSomeAnd open_then (λ n. Rose (before n) (after n))
cause_since open_then open_now before mid after same later h =
    at open_then (subst (λ (o : Option (List ℕ)). IsSomeAnd o (λ n. Rose (mid n) (after n))) same h) where
      at : (o : Option (List ℕ)) → IsSomeAnd o (λ n. Rose (mid n) (after n)) → IsSomeAnd o (λ n. Rose (before n) (after n))
      at None k = absurd k
      at (Some n) k = let below = later n in omega (arith, below, k)

-- the run of a file that was opened and then read, or why it was given up
module _ (holds : Option Files) (name : List ℕ) (rest : Option (List ℕ)) (before mid after : Option (List Request)) (whole : IsWholeFile holds name rest)
    (begun : Requested (request.begin name ∷ []) before mid) where
  behind : (n : ℕ) → Requested (nexts n) mid after → Requested (for_run name n) before after
  behind n asked = requested_both (request.begin name ∷ []) (nexts n) before mid after begun asked

  pub was_read : (old new : Reading) (given : ℕ) (first : Option ℕ) (run : IsRunFed rest old new given first mid after) → WasRead holds name [] before after run.z
  was_read old new given first run = record {
    joined = joined holds name rest run.z whole run.part (omega (arith, run.small, run.tally.0));
    pieces = run.pieces;
    are = run.are;
    whole = run.whole;
    asked = behind (length run.pieces) run.asked;
  }

  pub was_given_up : WasAsked (may_come_of rest + 1) mid after → WasGivenUp holds name [] before after
  was_given_up was = record {
    nexts = was.times;
    few = let few = was.few in let below = at holds whole in omega (arith, few, below);
    asked = behind was.times was.asked;
  } where
    of_file : (r : Option (List ℕ)) (o : Option (List ℕ)) → IsSomeAnd o (λ bytes. r ≡ Some bytes) → may_come_of r ≤ min most_run_bytes (held_length o)
    of_file r None h = absurd h
    of_file r (Some bytes) h = subst (λ (s : Option (List ℕ)). may_come_of s ≤ min most_run_bytes (length bytes)) (sym h) (omega arith)

    untold : (r : Option (List ℕ)) → may_come_of r ≤ most_run_bytes
    untold None = omega arith
    untold (Some bytes) = omega arith

    at : (h : Option Files) → IsWholeFile h name rest → may_come_of rest ≤ may_come h name
    at None w = untold rest
    at (Some files) w = of_file rest (map.get files name) w
