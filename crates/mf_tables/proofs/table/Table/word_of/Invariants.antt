use Rattle.std.proofs.Common.{◌≡◌, drop}
use Rattle.mf_tables.specs.Table.{word_of}
use Rattle.mf_tables.proofs.table.Table.word_of.Given as goal

-- the rows that are left answer
abbrev pub invariant-loop-row : goal.invariant-loop-row
invariant-loop-row g l = word_of l.number (drop l.row-index l.self.rows.now) ≡ word_of l.number l.self.rows.now
