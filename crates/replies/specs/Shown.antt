-- What the program prints, as bytes.
use Rattle.std.specs.Prelude.{List, [], ◌∷◌, ◌++◌, ℕ}
use Prim.Native.Char.{code}
use Rattle.model.specs.Listing.{Print, D, H, E, F, R, Wi, T}
use Rattle.text.specs.Numbers.{line_of}

-- a line of output
unfoldable pub shown : Print → List ℕ
shown (D n) = line_of (code "D") (n ∷ [])
shown (H i n ps) = line_of (code "H") (i ∷ n ∷ ps)
shown (E i) = line_of (code "E") (i ∷ [])
shown (F n) = line_of (code "F") (n ∷ [])
shown (R r) = line_of (code "R") (r ∷ [])
shown (Wi i n) = line_of (code "W") (i ∷ n ∷ [])
shown (T f h d r w l) = line_of (code "T") (f ∷ h ∷ d ∷ r ∷ w ∷ l ∷ [])

unfoldable pub shown_all : List Print → List ℕ
shown_all [] = []
shown_all (p ∷ ps) = shown p ++ shown_all ps
