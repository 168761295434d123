-- One table with its values, written out as bytes and numbers and worked out from document 01's table of fields, so that nothing here goes
-- through the catalogue: all bytes differ, and each has its highest bit set, so that every place, width and sign shows. negsuc x is the number -1 - x.
use Rattle.std.specs.Prelude.{ℕ, ◌≡◌, List, [], ◌∷◌, map, ℤ, pos, negsuc}
use Rattle.os2_fields.specs.Catalogue.{catalogue}
use Rattle.os2_fields.specs.Fields.{value_in}

abbrev pub written : List ℕ
written =
    255 ∷ 254 ∷ 253 ∷ 252 ∷ 251 ∷ 250 ∷ 249 ∷ 248 ∷ 247 ∷ 246 ∷ 245 ∷ 244 ∷ 243 ∷ 242 ∷ 241 ∷ 240 ∷ 239 ∷ 238 ∷ 237 ∷ 236 ∷
    235 ∷ 234 ∷ 233 ∷ 232 ∷ 231 ∷ 230 ∷ 229 ∷ 228 ∷ 227 ∷ 226 ∷ 225 ∷ 224 ∷ 223 ∷ 222 ∷ 221 ∷ 220 ∷ 219 ∷ 218 ∷ 217 ∷ 216 ∷
    215 ∷ 214 ∷ 213 ∷ 212 ∷ 211 ∷ 210 ∷ 209 ∷ 208 ∷ 207 ∷ 206 ∷ 205 ∷ 204 ∷ 203 ∷ 202 ∷ 201 ∷ 200 ∷ 199 ∷ 198 ∷ 197 ∷ 196 ∷
    195 ∷ 194 ∷ 193 ∷ 192 ∷ 191 ∷ 190 ∷ 189 ∷ 188 ∷ 187 ∷ 186 ∷ 185 ∷ 184 ∷ 183 ∷ 182 ∷ 181 ∷ 180 ∷ 179 ∷ 178 ∷ 177 ∷ 176 ∷
    175 ∷ 174 ∷ 173 ∷ 172 ∷ 171 ∷ 170 ∷ 169 ∷ 168 ∷ 167 ∷ 166 ∷ 165 ∷ 164 ∷ 163 ∷ 162 ∷ 161 ∷ 160 ∷ 159 ∷ 158 ∷ 157 ∷ 156 ∷
    []

-- the numbers of the 48 fields
abbrev pub read : List ℤ
read =
    pos 65534 ∷ negsuc 515 ∷ pos 64506 ∷ pos 63992 ∷ pos 63478 ∷ negsuc 2571 ∷ negsuc 3085 ∷ negsuc 3599 ∷
    negsuc 4113 ∷ negsuc 4627 ∷ negsuc 5141 ∷ negsuc 5655 ∷ negsuc 6169 ∷ negsuc 6683 ∷ negsuc 7197 ∷ negsuc 7711 ∷
    pos 223 ∷ pos 222 ∷ pos 221 ∷ pos 220 ∷ pos 219 ∷ pos 218 ∷ pos 217 ∷ pos 216 ∷
    pos 215 ∷ pos 214 ∷ pos 3587494866 ∷ pos 3520122830 ∷ pos 3452750794 ∷ pos 3385378758 ∷ pos 3318006722 ∷ pos 49600 ∷
    pos 49086 ∷ pos 48572 ∷ negsuc 17477 ∷ negsuc 17991 ∷ negsuc 18505 ∷ pos 46516 ∷ pos 46002 ∷ pos 2981146542 ∷
    pos 2913774506 ∷ negsuc 22103 ∷ negsuc 22617 ∷ pos 42404 ∷ pos 41890 ∷ pos 41376 ∷ pos 40862 ∷ pos 40348 ∷
    []

abbrev pub ReadsEach : Type 0
ReadsEach = map (value_in written) catalogue ≡ read
