-- The loop has looked at the first k records.
use mathlib.Core.Path.{◌≡◌}
use lib.ListN.{drop}
use Rattle.replay.specs.Tests.{audit_start, audit_of}
use Rattle.replay.proofs.AuditLaws.{InRange}
use Rattle.runlog.proofs.audit.Given as goal

abbrev pub invariant-loop-k : goal.invariant-loop-k
invariant-loop-k g l = let rs = g.L.Layout.records l.row in InRange l.a × (audit_of l.a (drop l.k rs) ≡ audit_of audit_start rs)
