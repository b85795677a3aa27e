-- Files in memory.
use Rattle.std.specs.Prelude.{ℕ, ◌<◌, ◌≤◌, ◌≡◌, ◌≢◌, List, All, Option, find, IsSome}
use Rattle.std.specs.Option.{option_map}
use Rattle.std.specs.Str.{bytes_eq}
use Rattle.smt_io.specs.declared.mem_file.MemFile.{MemFile}
use Rattle.smt_io.specs.declared.mem_file.FailAt.{FailAt}

-- the files, the places where reads fail, how many bytes a read gives at most, and the count of faults
pub record FileStore : Type 0 where
  pub files : List MemFile
  pub fails : List FailAt
  pub most : ℕ
  pub faults : ℕ

-- the bytes of the first file of that name
abbrev pub bytes_of : List MemFile → List ℕ → Option (List ℕ)
bytes_of files name = option_map (λ file. file.bytes) (find (λ file. bytes_eq file.name name) files)

-- no failing place of that name stands at this place or before it
abbrev pub IsClearAt : List FailAt → List ℕ → ℕ → Type 0
IsClearAt fails name at = All (λ fail. fail.name ≡ name → at < fail.place) fails

-- bytes up to this place stand before each failing place of that name
abbrev pub StopsBefore : List FailAt → List ℕ → ℕ → Type 0
StopsBefore fails name end = All (λ fail. fail.name ≡ name → end ≤ fail.place) fails

-- there is a file of that name, and no failing place
abbrev pub IsWhole : FileStore → List ℕ → Type 0
IsWhole store name = IsSome (bytes_of store.files name) × All (λ fail. fail.name ≢ name) store.fails
