-- The first file of the name is among those that are left.
use Rattle.std.proofs.Common.{◌≡◌, drop}
use Rattle.smt_io.specs.MemFiles.{bytes_of}
use Rattle.smt_io.proofs.mem_files.find.Given as goal

abbrev pub invariant-loop-file : goal.invariant-loop-file
invariant-loop-file l = bytes_of (drop l.file-index l.files) l.name ≡ bytes_of l.files l.name
