-- Trees without their places, and how they are written.
use Rattle.std.specs.Prelude.{◌≡◌, ℕ, List, [], ◌∷◌, ◌++◌, codes}
use Rattle.sexp.specs.Bytes.{class_of}
use Rattle.sexp.specs.declared.bytes.Class.TheVariants.{Letter}
use Rattle.sexp.specs.Tree.{Tree, Trees, AtomTree, QuotedTree, ListTree, no_trees, more_trees}

mutual
  -- an atom or a list
  pub data Shape : Type 0 where
    AtomShape : (text : List ℕ) → Shape
    ListShape : (parts : Shapes) → Shape

  -- in the order of the text
  pub data Shapes : Type 0 where
    no_shapes : Shapes
    more_shapes : (first : Shape) → (rest : Shapes) → Shapes

-- shapes, and others behind them
abbrev pub joined : Shapes → Shapes → Shapes
joined no_shapes others = others
joined (more_shapes first rest) others = more_shapes first (joined rest others)

-- a shape alone
abbrev pub one_shape : Shape → Shapes
one_shape shape = more_shapes shape no_shapes

-- ---- their text

unfoldable mutual
  -- the bytes of an atom, or the parts of a list in parentheses
  pub shape_text : Shape → List ℕ
  shape_text (AtomShape text) = text
  shape_text (ListShape parts) = codes "(" ++ shapes_text parts ++ codes ")"

  -- a blank between each two
  pub shapes_text : Shapes → List ℕ
  shapes_text no_shapes = []
  shapes_text (more_shapes first rest) = shape_text first ++ behind_text rest

  -- a blank before each
  pub behind_text : Shapes → List ℕ
  behind_text no_shapes = []
  behind_text (more_shapes first rest) = codes " " ++ shape_text first ++ behind_text rest

-- bytes that may stand in an atom
abbrev pub AreLetters : List ℕ → Type 0
AreLetters [] = Unit {0}
AreLetters (b ∷ bytes) = (class_of b ≡ Letter) × AreLetters bytes

-- an atom has a byte
abbrev pub IsAtomText : List ℕ → Type 0
IsAtomText [] = ⊥
IsAtomText (b ∷ bytes) = AreLetters (b ∷ bytes)

unfoldable mutual
  -- each atom is a text that is read as an atom
  pub IsWritten : Shape → Type 0
  IsWritten (AtomShape text) = IsAtomText text
  IsWritten (ListShape parts) = AreWritten parts

  -- the same of each
  pub AreWritten : Shapes → Type 0
  AreWritten no_shapes = Unit {0}
  AreWritten (more_shapes first rest) = IsWritten first × AreWritten rest

-- ---- the trees that have them

unfoldable mutual
  -- the tree is the shape, wherever it stands; no atom is quoted
  pub HasShape : Shape → Tree → Type 0
  HasShape (AtomShape text) (AtomTree at other) = other ≡ text
  HasShape (AtomShape text) (QuotedTree at other) = ⊥
  HasShape (AtomShape text) (ListTree at trees) = ⊥
  HasShape (ListShape parts) (AtomTree at other) = ⊥
  HasShape (ListShape parts) (QuotedTree at other) = ⊥
  HasShape (ListShape parts) (ListTree at trees) = HaveShapes parts trees

  -- each tree has the shape in its place
  pub HaveShapes : Shapes → Trees → Type 0
  HaveShapes no_shapes no_trees = Unit {0}
  HaveShapes no_shapes (more_trees tree trees) = ⊥
  HaveShapes (more_shapes first rest) no_trees = ⊥
  HaveShapes (more_shapes first rest) (more_trees tree trees) = HasShape first tree × HaveShapes rest trees
