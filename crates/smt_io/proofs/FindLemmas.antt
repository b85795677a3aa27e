-- The first file of a name, as a loop over the files comes to it.
use Rattle.std.proofs.Common.{◌≡◌, ℕ, suc, ◌+◌, ◌<◌, List, ◌∷◌, length, drop, get_or, Some, true, false, sym, ap, ◌∙◌, add-one}
use Rattle.std.proofs.Math.Seq.{drop-cons}
use Rattle.std.specs.Str.{bytes_eq}
use Rattle.smt_io.specs.declared.mem_file.MemFile.{MemFile}
use Rattle.smt_io.specs.MemFiles.{bytes_of}

-- from the file's place on, the files begin with it
at_file : (files : List MemFile) (i : ℕ) (file : MemFile) → i < length files → file ≡ get_or files i file → drop i files ≡ file ∷ drop (i + 1) files
at_file files i file within is = rw add-one (drop-cons files i file within ∙ ap (λ f. f ∷ drop (suc i) files) (sym is))

-- the first of the files has the name
pub found_here : (files : List MemFile) (name : List ℕ) (i : ℕ) (file : MemFile) → i < length files → file ≡ get_or files i file → bytes_eq file.name name ≡ true → bytes_of (drop i files) name ≡ Some file.bytes
found_here files name i file within is same = rw (at_file files i file within is, same)

-- the first of the files has another name
pub not_here : (files : List MemFile) (name : List ℕ) (i : ℕ) (file : MemFile) → i < length files → file ≡ get_or files i file → bytes_eq file.name name ≡ false → bytes_of (drop (i + 1) files) name ≡ bytes_of (drop i files) name
not_here files name i file within is other = rw (at_file files i file within is, other)
