use Rattle.std.proofs.Common.{◌≡◌, sym, ◌∙◌, arith}
use Rattle.sap_replay.proofs.SessionWords.{read_sessions, sessions_spelled}
use Rattle.sap_replay.proofs.sessions.sessions_of.Goals as goal
use Rattle.sap_replay.proofs.sessions.sessions_of.Goals.{else-n-ge1-via-then-n-ge1+else-n-le-MOST_SESSIONS, else-n-ge1-via-else-n-ge1}

pub returns-then-n-le-MOST_SESSIONS : goal.returns-then-n-le-MOST_SESSIONS
returns-then-n-le-MOST_SESSIONS c =
    sessions_spelled c.spelled_as.result c.args.word.now c.in-Ok.n (omega (arith, c.if-n-ge1.true)) (omega (arith, c.if-n-le-MOST_SESSIONS.true))
    (λ m most is. let same = sym c.in-Ok.is ∙ read_sessions c.args.word.now c.parse.result m c.parse.ensures.value.0 most is in cc) c.spelled_as.ensures

pub returns-else-n-ge1 : goal.returns-else-n-ge1
returns-else-n-ge1 c = λ m some most is.
    let read = sym c.in-Ok.is ∙ read_sessions c.args.word.now c.parse.result m c.parse.ensures.value.0 most is in
    let same : c.in-Ok.n ≡ m = cc in
    elim c.else-n-ge1.branch [
      | else-n-ge1-via-then-n-ge1+else-n-le-MOST_SESSIONS w ↦ omega (arith, same, most, w.if-n-le-MOST_SESSIONS.false)
      | else-n-ge1-via-else-n-ge1 w ↦ omega (arith, same, some, w.if-n-ge1.false)
    ]

pub returns-in-Err : goal.returns-in-Err
returns-in-Err c = λ m some most is.
    let read = sym c.in-Err.is ∙ read_sessions c.args.word.now c.parse.result m c.parse.ensures.value.0 most is in cc
