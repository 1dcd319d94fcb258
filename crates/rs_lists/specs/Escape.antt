-- The five characters that XML writes as references (XML 1.0, section 4.6; Sitemap 0.9).
use Rattle.std.specs.Prelude.{ℕ, Bool, not, ◌&&◌, ◌==◌, if◌then◌else◌, List, [], ◌∷◌, codes}
use Rattle.std.specs.List.{flat_map}

-- the text that represents a byte in XML
abbrev pub escaped : ℕ → List ℕ
escaped c =
    if c == 38 then codes "&amp;" else if c == 39 then codes "&apos;" else if c == 34 then codes "&quot;"
    else if c == 62 then codes "&gt;" else if c == 60 then codes "&lt;" else c ∷ []

-- the text that represents bytes in XML, byte by byte
abbrev pub escape : List ℕ → List ℕ
escape bytes = flat_map escaped bytes

-- the byte is not one of the five characters
abbrev pub stands_as_it_is : ℕ → Bool
stands_as_it_is c = not (c == 38) && not (c == 39) && not (c == 34) && not (c == 62) && not (c == 60)
