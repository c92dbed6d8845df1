mod ReadBack
mod WriteBack
mod WhatWasWritten
