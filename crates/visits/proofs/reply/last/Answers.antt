-- `visits::reply::last` meets its contract.
use Rattle.visits.proofs.Settle.{settle-le, settle-none}
use Rattle.visits.specs.Words.{cube_of_words}
use Rattle.visits.specs.Replies.{survives}
use mathlib.Core.Path.{sym}
use native.Mathlib.Nat.{pos_of_ne-zero}
use native.Mathlib.Omega.{arith}
use Rattle.visits.proofs.reply.last.Goals as goal

pub returns-then-have-eq0 : goal.returns-then-have-eq0
returns-then-have-eq0 c = sym (settle-none c.args.have.allowance (survives (cube_of_words c.args.piece)) c.if-have-eq0.true (omega arith))

pub returns : goal.returns
returns c =
    rw c.spend.ensures (sym (settle-le c.args.have.allowance (survives (cube_of_words c.args.piece)) (pos_of_ne-zero c.if-have-eq0.false)))
