-- The annex's table for portable signals (annex, part B, 2), typed as printed, in tenths of a second; and which stretches and speeds it lists
-- (document 02, 2026-07).
use Rattle.std.specs.Prelude.{ℕ, ◌+◌, ◌-◌, ◌/◌, ◌%◌, Bool, ◌&&◌, List, [], ◌∷◌, leb, eqb, get_or}
use Rattle.stretches.specs.declared.TableTimes.{TableTimes}

-- a row for each stretch, 10 to 300 m by tens: t at 25, 30, 35 and 40 km/h, then L at these
unfoldable pub table : List (List ℕ)
table =
    (43 ∷ 36 ∷ 31 ∷ 27 ∷ 126 ∷ 112 ∷ 102 ∷ 94 ∷ []) ∷
    (58 ∷ 48 ∷ 41 ∷ 36 ∷ 155 ∷ 136 ∷ 122 ∷ 112 ∷ []) ∷
    (72 ∷ 60 ∷ 51 ∷ 45 ∷ 184 ∷ 160 ∷ 143 ∷ 130 ∷ []) ∷
    (86 ∷ 72 ∷ 62 ∷ 54 ∷ 213 ∷ 184 ∷ 163 ∷ 148 ∷ []) ∷
    (101 ∷ 84 ∷ 72 ∷ 63 ∷ 242 ∷ 208 ∷ 184 ∷ 166 ∷ []) ∷
    (115 ∷ 96 ∷ 82 ∷ 72 ∷ 270 ∷ 232 ∷ 205 ∷ 184 ∷ []) ∷
    (130 ∷ 108 ∷ 93 ∷ 81 ∷ 299 ∷ 256 ∷ 225 ∷ 202 ∷ []) ∷
    (144 ∷ 120 ∷ 103 ∷ 90 ∷ 328 ∷ 280 ∷ 246 ∷ 220 ∷ []) ∷
    (158 ∷ 132 ∷ 113 ∷ 99 ∷ 357 ∷ 304 ∷ 266 ∷ 238 ∷ []) ∷
    (173 ∷ 144 ∷ 123 ∷ 108 ∷ 386 ∷ 328 ∷ 287 ∷ 256 ∷ []) ∷
    (187 ∷ 156 ∷ 134 ∷ 117 ∷ 414 ∷ 352 ∷ 307 ∷ 274 ∷ []) ∷
    (202 ∷ 168 ∷ 144 ∷ 126 ∷ 443 ∷ 376 ∷ 328 ∷ 292 ∷ []) ∷
    (216 ∷ 180 ∷ 154 ∷ 135 ∷ 472 ∷ 400 ∷ 349 ∷ 310 ∷ []) ∷
    (230 ∷ 192 ∷ 165 ∷ 144 ∷ 501 ∷ 424 ∷ 369 ∷ 328 ∷ []) ∷
    (245 ∷ 204 ∷ 175 ∷ 153 ∷ 530 ∷ 448 ∷ 390 ∷ 346 ∷ []) ∷
    (259 ∷ 216 ∷ 185 ∷ 162 ∷ 558 ∷ 472 ∷ 410 ∷ 364 ∷ []) ∷
    (274 ∷ 228 ∷ 195 ∷ 171 ∷ 587 ∷ 496 ∷ 431 ∷ 382 ∷ []) ∷
    (288 ∷ 240 ∷ 206 ∷ 180 ∷ 616 ∷ 520 ∷ 451 ∷ 400 ∷ []) ∷
    (302 ∷ 252 ∷ 216 ∷ 189 ∷ 645 ∷ 544 ∷ 472 ∷ 418 ∷ []) ∷
    (317 ∷ 264 ∷ 226 ∷ 198 ∷ 674 ∷ 568 ∷ 493 ∷ 436 ∷ []) ∷
    (331 ∷ 276 ∷ 237 ∷ 207 ∷ 702 ∷ 592 ∷ 513 ∷ 454 ∷ []) ∷
    (346 ∷ 288 ∷ 247 ∷ 216 ∷ 731 ∷ 616 ∷ 534 ∷ 472 ∷ []) ∷
    (360 ∷ 300 ∷ 257 ∷ 225 ∷ 760 ∷ 640 ∷ 554 ∷ 490 ∷ []) ∷
    (374 ∷ 312 ∷ 267 ∷ 234 ∷ 789 ∷ 664 ∷ 575 ∷ 508 ∷ []) ∷
    (389 ∷ 324 ∷ 278 ∷ 243 ∷ 818 ∷ 688 ∷ 595 ∷ 526 ∷ []) ∷
    (403 ∷ 336 ∷ 288 ∷ 252 ∷ 846 ∷ 712 ∷ 616 ∷ 544 ∷ []) ∷
    (418 ∷ 348 ∷ 298 ∷ 261 ∷ 875 ∷ 736 ∷ 637 ∷ 562 ∷ []) ∷
    (432 ∷ 360 ∷ 309 ∷ 270 ∷ 904 ∷ 760 ∷ 657 ∷ 580 ∷ []) ∷
    (446 ∷ 372 ∷ 319 ∷ 279 ∷ 933 ∷ 784 ∷ 678 ∷ 598 ∷ []) ∷
    (461 ∷ 384 ∷ 329 ∷ 288 ∷ 962 ∷ 808 ∷ 698 ∷ 616 ∷ []) ∷
    []

-- a number from low to high that is a multiple of a step
unfoldable pub by_steps : ℕ → ℕ → ℕ → ℕ → Bool
by_steps low high step n = leb low n && leb n high && eqb (n % step) 0

-- 25: are stretch and speed listed? Stretches of 10 to 300 m by tens, at 25, 30, 35 and 40 km/h
unfoldable pub listed : ℕ → ℕ → Bool
listed stretch speed = by_steps 10 300 10 stretch && by_steps 25 40 5 speed

-- the clearing length of a stretch, in metres
abbrev pub clearing_length : ℕ → ℕ
clearing_length stretch = stretch + 20

-- the number in a row and a column, from 0
unfoldable pub entry : ℕ → ℕ → ℕ
entry row column = get_or (get_or table row []) column 0

-- the row of a stretch, and the column of t at a speed; that of L is four further
abbrev pub row_of : ℕ → ℕ
row_of stretch = stretch / 10 - 1

abbrev pub column_of : ℕ → ℕ
column_of speed = speed / 5 - 5

-- the table's t and L
abbrev pub table_t : ℕ → ℕ → ℕ
table_t stretch speed = entry (row_of stretch) (column_of speed)

abbrev pub table_l : ℕ → ℕ → ℕ
table_l stretch speed = entry (row_of stretch) (column_of speed + 4)

abbrev pub table_times : ℕ → ℕ → TableTimes
table_times stretch speed = record { clearing = table_t stretch speed; lost = table_l stretch speed }
